-- What a value that takes no memory stands for.
use Rattle.std.specs.Prelude.{List, map}
use Rattle.channel_values.specs.declared.flat.FlatShape.{FlatShape}
use Rattle.channel_values.specs.declared.flat.FlatShape.TheVariants as flats
use Rattle.channel_values.specs.declared.flat.FlatAsset.{FlatAsset}
use Rattle.channel_values.specs.declared.value.Shape.{Shape}
use Rattle.channel_values.specs.declared.value.Shape.TheVariants.{Allocation, Guarantee}
use Rattle.channel_values.specs.declared.value.AssetOutcome.{AssetOutcome}

abbrev pub shape_of : FlatShape → Shape
shape_of (flats.Allocation items) = Allocation items.items
shape_of (flats.Guarantee target dests) = Guarantee target dests.items

abbrev pub asset_of : FlatAsset → AssetOutcome
asset_of o = record { asset = o.asset; shape = shape_of o.shape }

abbrev pub assets_of : List FlatAsset → List AssetOutcome
assets_of os = map asset_of os
