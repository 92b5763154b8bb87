use Rattle.std.proofs.Common.{◌≡◌, take}
use Rattle.std.specs.Prelude.{count_by}
use Rattle.record_checker.specs.Seen.{two_seen}
use Rattle.record_checker.proofs.plans.count_two.Given as goal

abbrev pub invariant-loop-state : goal.invariant-loop-state
invariant-loop-state l = l.count ≡ count_by (two_seen l.past) (take l.state-index l.known)
