use Rattle.std.proofs.Common.{◌≡◌, ◌++◌, take}
use Rattle.std.specs.List.{flat_map, AllByRecursion}
use Rattle.run_record.specs.Limits.{IsPart}
use Rattle.run_record.specs.Spelling.{part}
use Rattle.run_record.proofs.putting.put_parts.Given as goal

abbrev pub invariant-loop-part : goal.invariant-loop-part
invariant-loop-part l = (l.out.items ≡ l.initial.out.items ++ flat_map part (take l.part-index l.parts)) × AllByRecursion IsPart (take l.part-index l.parts)
