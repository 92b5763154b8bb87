-- The calls of an exit, and whether it is still owed.
use Rattle.std.specs.Prelude.{ℕ, Bool, List, [], Option, Some, None}
use Rattle.call_history.specs.declared.call.Call.{Call}
use Rattle.funding_plans.specs.Known.{FactsOf}
use Rattle.plan_share.specs.Owed.{is_owed_seen}
use Rattle.channel_exits.specs.Calls.{exit_calls}
use Rattle.channel_exits.specs.Exits.{ended_in, first_not_final}

abbrev pub exits_but : FactsOf → Option (List ℕ) → List Call
exits_but f None = exit_calls (ended_in f.view) f.plan.me f.plan.parts
exits_but f (Some name) = []

-- none while a channel with a held chain isn't final
abbrev pub exits_in : FactsOf → List Call
exits_in f = exits_but f (first_not_final f.view f.chains f.plan.parts)

-- the participant can still get more of an asset than it was paid
abbrev pub is_owed_in : FactsOf → Bool
is_owed_in f = is_owed_seen f.view f.plan f.known
