use Rattle.std.proofs.Common.{◌≡◌, ◌++◌, take}
use Rattle.std.specs.Prelude.{map}
use Rattle.run_record.specs.Sums.{deposited_sum}
use Rattle.run_record.proofs.sums.put_deposited.Given as goal

abbrev pub invariant-loop-asset : goal.invariant-loop-asset
invariant-loop-asset l = l.all.items ≡ l.initial.all.items ++ map (deposited_sum l.balances) (take l.asset-index l.assets)
