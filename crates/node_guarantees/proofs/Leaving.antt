-- What a view says of final channels is what the history does.
use Rattle.std.proofs.Common.{◌≡◌, ℕ, Bool, true, false, cond, List, [], ◌∷◌, refl, ◌∙◌, ap}
use Rattle.std.specs.Prelude.{Option, Some, None}
use Rattle.std.specs.Str.{bytes_eq}
use Rattle.channel_values.specs.declared.value.AssetOutcome.{AssetOutcome}
use Rattle.call_history.specs.Mode.{mode_at, is_final}
use Rattle.channel_values.specs.Rules.{Rules}
use Rattle.call_history.specs.History.{row, mode}
use Rattle.call_history.specs.declared.entry.Entry.{Entry}
use Rattle.call_history.specs.declared.view.ChannelView.{ChannelView}
use Rattle.call_history.specs.declared.view.WorldView.{WorldView}
use Rattle.history_view.specs.Views.{view_of}
use Rattle.history_view.specs.Standing.{KnowsChannel, StandsFor}
use Rattle.funding_plans.specs.Gathered.{view_in}
use Rattle.channel_exits.specs.Calls.{Ended, exit_calls}
use Rattle.channel_exits.specs.Exits.{is_final_at, settled_at, ended_in}
use Rattle.channel_exits.specs.Endings.{ended}
use Rattle.node_guarantees.specs.ViewExits.{ViewsTellExits}
use mathlib.Core.Path.{fun_ext}

-- of a channel that isn't known nothing is final
by-view : (now : ℕ) (views : List ChannelView) (channel : List ℕ) →
    cond (is_final_at now (view_in channel views)) (settled_at (view_in channel views)) None
    ≡ cond (is_final (mode_at (view_of views channel).deadline now)) (view_of views channel).settled None
by-view now [] channel = refl
by-view now (v ∷ vs) channel = go (bytes_eq v.channel channel) (by-view now vs channel)
  where
    go : (t : Bool) → cond (is_final_at now (view_in channel vs)) (settled_at (view_in channel vs)) None
        ≡ cond (is_final (mode_at (view_of vs channel).deadline now)) (view_of vs channel).settled None →
        cond (is_final_at now (cond t (Some v) (view_in channel vs))) (settled_at (cond t (Some v) (view_in channel vs))) None
        ≡ cond (is_final (mode_at (cond t v (view_of vs channel)).deadline now)) (cond t v (view_of vs channel)).settled None
    go true rec = refl
    go false rec = rec

ended-is : (r : Rules) (past : List Entry) (w : WorldView) → StandsFor r past w → (channel : List ℕ) → ended_in w channel ≡ ended r past channel
ended-is r past w stands channel =
    by-view w.now w.channels channel
    ∙ (ap (λ (d : Option ℕ). cond (is_final (mode_at d w.now)) (view_of w.channels channel).settled None) knows.deadline
    ∙ (ap (λ (n : ℕ). cond (is_final (mode_at (row r channel past).deadline n)) (view_of w.channels channel).settled None) stands.now
    ∙ ap (λ (o : Option (List AssetOutcome)). cond (is_final (mode r channel past)) o None) knows.settled))
  where
    knows : KnowsChannel r channel past (view_of w.channels channel)
    knows = stands.channels channel

pub tells_exits : ViewsTellExits
tells_exits r past w stands me parts = ap (λ (e : Ended). exit_calls e me parts) (fun_ext (λ channel. ended-is r past w stands channel))
