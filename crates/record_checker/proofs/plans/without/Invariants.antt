use Rattle.std.proofs.Common.{◌≡◌, take}
use Rattle.run_record.specs.Plans.{without}
use Rattle.record_checker.proofs.plans.without.Given as goal

abbrev pub invariant-loop-other : goal.invariant-loop-other
invariant-loop-other l = l.left.items ≡ without l.name (take l.other-index l.names)
