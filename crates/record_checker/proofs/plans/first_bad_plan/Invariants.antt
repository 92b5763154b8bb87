use Rattle.std.proofs.Common.{◌≡◌, take}
use Rattle.std.specs.Prelude.{All}
use Rattle.record_checker.specs.Seen.{HasPlanSeen}
use Rattle.record_checker.proofs.plans.first_bad_plan.Given as goal

abbrev pub invariant-loop-ending : goal.invariant-loop-ending
invariant-loop-ending l = record {
  counted : l.count ≡ l.ending-index;
  all : All (HasPlanSeen l.past) (take l.ending-index l.ends);
}
