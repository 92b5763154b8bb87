use Rattle.std.proofs.Common.{◌≡◌, ◌++◌, take}
use Rattle.std.specs.List.{flat_map, AllByRecursion}
use Rattle.run_record.specs.Limits.{IsKnown}
use Rattle.run_record.specs.Spelling.{known_state}
use Rattle.run_record.proofs.putting.put_all_known.Given as goal

abbrev pub invariant-loop-state : goal.invariant-loop-state
invariant-loop-state l = (l.out.items ≡ l.initial.out.items ++ flat_map known_state (take l.state-index l.known)) × AllByRecursion IsKnown (take l.state-index l.known)
