-- The calls of an exit are given where no channel with a held chain is still to become final.
use Rattle.std.proofs.Common.{◌≡◌, List, None, ◌∙◌, sym, ap}
use Rattle.call_history.specs.declared.call.Call.{Call}
use Rattle.funding_plans.specs.Known.{FactsOf}
use Rattle.channel_exits.specs.Calls.{exit_calls}
use Rattle.channel_exits.specs.Exits.{ended_in, first_not_final}
use Rattle.stage_tables.specs.Exiting.{exits_but, exits_in}

pub exits_are : (f : FactsOf) (calls : List Call) → first_not_final f.view f.chains f.plan.parts ≡ None → calls ≡ exit_calls (ended_in f.view) f.plan.me f.plan.parts → calls ≡ exits_in f
exits_are f calls final is = is ∙ sym (ap (exits_but f) final)
