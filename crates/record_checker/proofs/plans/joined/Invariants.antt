use Rattle.std.proofs.Common.{◌≡◌, take}
use Rattle.run_record.specs.Plans.{joined}
use Rattle.record_checker.proofs.plans.joined.Given as goal

abbrev pub invariant-loop-part : goal.invariant-loop-part
invariant-loop-part l = l.names.items ≡ joined (take l.part-index l.all)
