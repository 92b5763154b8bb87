use Rattle.std.proofs.Common.{◌≡◌, take}
use Rattle.channel_values.specs.Flat.{assets_of}
use Rattle.channel_values.proofs.outcome.heap_assets.Given as goal

abbrev pub invariant-loop-o : goal.invariant-loop-o
invariant-loop-o l = l.copies.items ≡ assets_of (take l.o-index l.assets)
