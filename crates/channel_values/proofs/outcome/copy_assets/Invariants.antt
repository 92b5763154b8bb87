use Rattle.std.proofs.Common.{◌≡◌, take}
use Rattle.channel_values.proofs.outcome.copy_assets.Given as goal

abbrev pub invariant-loop-o : goal.invariant-loop-o
invariant-loop-o l = l.copies.items ≡ take l.o-index l.assets
