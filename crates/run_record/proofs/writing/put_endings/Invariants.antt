use Rattle.std.proofs.Common.{◌≡◌, ◌++◌, take}
use Rattle.std.specs.List.{flat_map, AllByRecursion}
use Rattle.run_record.specs.Limits.{IsEnding}
use Rattle.run_record.specs.Spelling.{ending}
use Rattle.run_record.proofs.writing.put_endings.Given as goal

abbrev pub invariant-loop-ending : goal.invariant-loop-ending
invariant-loop-ending l = (l.out.items ≡ l.initial.out.items ++ flat_map ending (take l.ending-index l.ends)) × AllByRecursion IsEnding (take l.ending-index l.ends)
