use Rattle.std.proofs.Common.{◌≡◌, ◌++◌, take}
use Rattle.std.specs.List.{flat_map, AllByRecursion}
use Rattle.run_record.specs.Limits.{IsSum}
use Rattle.run_record.specs.Spelling.{summed}
use Rattle.run_record.proofs.putting.put_sums.Given as goal

abbrev pub invariant-loop-sum : goal.invariant-loop-sum
invariant-loop-sum l = (l.out.items ≡ l.initial.out.items ++ flat_map summed (take l.sum-index l.sums)) × AllByRecursion IsSum (take l.sum-index l.sums)
