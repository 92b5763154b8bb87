use Rattle.std.proofs.Common.{◌≡◌, ◌++◌, take}
use Rattle.record_checker.specs.Seen.{assets_in}
use Rattle.record_checker.proofs.shares.put_assets.Given as goal

abbrev pub invariant-loop-o : goal.invariant-loop-o
invariant-loop-o l = l.named.items ≡ l.initial.named.items ++ assets_in (take l.o-index l.assets)
