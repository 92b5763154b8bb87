use Rattle.std.proofs.Common.{◌≡◌, ◌++◌, ◌∷◌, length, take}
use Rattle.std.specs.List.{flat_map, AllByRecursion}
use Rattle.channel_values.specs.Outcomes.{FitsAsset}
use Rattle.channel_values.specs.Spelling.{count, asset_outcome}
use Rattle.channel_values.proofs.writing.put_assets.Given as goal

abbrev pub invariant-loop-o : goal.invariant-loop-o
invariant-loop-o l = (l.out.items ≡ l.fn.out.items ++ count (length l.assets) ∷ flat_map asset_outcome (take l.o-index l.assets)) × AllByRecursion FitsAsset (take l.o-index l.assets)
