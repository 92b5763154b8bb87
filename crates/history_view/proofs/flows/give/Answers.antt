use Rattle.std.proofs.Common.{◌≡◌, ℕ, List, OnOk, sym, ap, subst}
use Rattle.std.specs.Prelude.{Option}
use Rattle.call_history.specs.declared.view.ChannelView.{ChannelView}
use Rattle.history_view.specs.Views.{channel_gave, views_gave}
use Rattle.history_view.proofs.Known.{put_changed}
use Rattle.history_view.proofs.flows.give.Goals as goal

pub returns : goal.returns
returns c =
    subst (λ (from : Option (List ℕ)). OnOk c.put.result (c.put.new.self ≡ views_gave from c.args.asset c.args.amount c.args.views.now)) (sym c.in-Some.is)
    (put_changed c.put.result (channel_gave c.args.asset c.args.amount) c.in-Some.source c.args.views.now c.take.new.self c.put.new.self c.in_ok-view.view c.lower_view.new.view
    c.in_ok-view.ensures.known c.in_ok-view.ensures.rest c.in_ok-lower_view.ensures (ap (λ (v : ChannelView). v.channel) c.in_ok-lower_view.ensures) c.put.ensures)
