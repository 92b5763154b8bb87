-- How a channel stands is told by what is known of it.
use Rattle.std.proofs.Common.{◌≡◌, ℕ, List, ap, sym}
use Rattle.call_history.specs.Mode.{mode_at}
use Rattle.call_history.specs.declared.standing.Standing.TheVariants.{Open}
use Rattle.call_history.specs.declared.view.ChannelView.{ChannelView}
use Rattle.history_view.specs.Views.{view_of, unknown}
use Rattle.funding_plans.specs.Known.{FactsOf}
use Rattle.channel_node.specs.Refusing.{stands_in}

pub stands_unknown : (f : FactsOf) (channel : List ℕ) → view_of f.view.channels channel ≡ unknown channel → Open ≡ stands_in f channel
stands_unknown f channel e = ap (λ (v : ChannelView). mode_at v.deadline f.view.now) (sym e)

pub stands_known : (f : FactsOf) (channel : List ℕ) (v : ChannelView) → view_of f.view.channels channel ≡ v → mode_at v.deadline f.view.now ≡ stands_in f channel
stands_known f channel v e = ap (λ (x : ChannelView). mode_at x.deadline f.view.now) (sym e)
