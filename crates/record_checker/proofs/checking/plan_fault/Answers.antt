use Rattle.std.proofs.Common.{List, subst}
use Rattle.std.specs.Prelude.{IfOk}
use Rattle.run_record.specs.declared.run_record.Ending.{Ending}
use Rattle.record_checker.specs.Seen.{HasPlanSeen}
use Rattle.record_checker.specs.Faults.{Lacks}
use Rattle.record_checker.proofs.Lacking.{plans_told}
use Rattle.record_checker.proofs.checking.plan_fault.Goals as goal

pub returns : goal.returns
returns c =
    plans_told c.first_bad_plan.result c.args.value.now.history c.args.past.now c.args.value.now.ends c.requires
    (subst (λ (ends : List Ending). IfOk c.first_bad_plan.result (Lacks (HasPlanSeen c.args.past.now) ends)) c.as_slice.ensures c.first_bad_plan.ensures)
