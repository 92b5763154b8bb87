-- A view that stands for a history has what each final channel ended with, and so the calls of an exit.
use Rattle.std.specs.Prelude.{◌≡◌, ℕ, List}
use Rattle.channel_values.specs.Rules.{Rules}
use Rattle.call_history.specs.declared.entry.Entry.{Entry}
use Rattle.call_history.specs.declared.view.WorldView.{WorldView}
use Rattle.history_view.specs.Standing.{StandsFor}
use Rattle.funding_plans.specs.declared.plan.Part.{Part}
use Rattle.channel_exits.specs.Calls.{exit_calls}
use Rattle.channel_exits.specs.Exits.{ended_in}
use Rattle.channel_exits.specs.Endings.{ended}

-- the calls of any person's exit, by the view and by the history
abbrev pub ViewsTellExits : Type 0
ViewsTellExits =
    (r : Rules) (past : List Entry) (w : WorldView) → StandsFor r past w
    → (me : List ℕ) (parts : List Part) → exit_calls (ended_in w) me parts ≡ exit_calls (ended r past) me parts
