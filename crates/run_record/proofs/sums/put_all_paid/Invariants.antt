use Rattle.std.proofs.Common.{◌≡◌, ◌++◌, take}
use Rattle.std.specs.Prelude.{flat_map}
use Rattle.run_record.specs.Sums.{paid_sum}
use Rattle.run_record.proofs.sums.put_all_paid.Given as goal

abbrev pub invariant-loop-pair : goal.invariant-loop-pair
invariant-loop-pair l = l.all.items ≡ l.initial.all.items ++ flat_map (paid_sum l.balances) (take l.pair-index l.pairs)
