-- A spelling of an outcome leaves room for votes in the data of a state.
use Rattle.std.proofs.Common.{◌*◌, ◌≤◌, List, [], ◌∷◌, length, length-append, arith}
use Rattle.std.specs.List.{AllByRecursion, flat_map}
use Rattle.channel_values.specs.declared.value.Dest.{Dest}
use Rattle.channel_values.specs.declared.value.Dest.TheVariants.{Person, Channel}
use Rattle.channel_values.specs.declared.value.Item.{Item}
use Rattle.channel_values.specs.declared.value.Shape.{Shape}
use Rattle.channel_values.specs.declared.value.Shape.TheVariants.{Allocation, Guarantee}
use Rattle.channel_values.specs.declared.value.AssetOutcome.{AssetOutcome}
use Rattle.channel_values.specs.Outcomes.{IsDest, IsItem, IsShape, IsAssetOutcome, IsOutcome}
use Rattle.channel_values.specs.Spelling.{dest, item, count, shape, asset_outcome, outcome}

long_dest : (d : Dest) → IsDest d → length (dest d) ≤ 33
long_dest (Person name) h = let e = h.0 in omega arith
long_dest (Channel name) h = let e = h.0 in omega arith

long_item : (i : Item) → IsItem i → length (item i) ≤ 41
long_item i h = let d = long_dest i.to h.0 in simp length-append (omega arith)

long_dests : (ds : List Dest) → AllByRecursion IsDest ds → length (flat_map dest ds) ≤ 33 * length ds
long_dests [] h = omega arith
long_dests (d ∷ ds) h = let a = long_dest d h.0 in let b = long_dests ds h.1 in simp length-append (omega arith)

long_items : (is : List Item) → AllByRecursion IsItem is → length (flat_map item is) ≤ 41 * length is
long_items [] h = omega arith
long_items (i ∷ is) h = let a = long_item i h.0 in let b = long_items is h.1 in omega (arith, length-append (item i) (flat_map item is))

long_shape : (s : Shape) → IsShape s → length (shape s) ≤ 658
long_shape (Allocation items) h = let a = long_items items h.1.each in let b = h.0 in omega arith
long_shape (Guarantee target dests) h = let a = long_dests dests h.2.each in let b = h.1 in let c = h.0.0 in omega (arith, length-append target (count (length dests) ∷ flat_map dest dests))

long_asset : (o : AssetOutcome) → IsAssetOutcome o → length (asset_outcome o) ≤ 662
long_asset o h = let a = long_shape o.shape h.1 in simp length-append (omega arith)

long_assets : (os : List AssetOutcome) → AllByRecursion IsAssetOutcome os → length (flat_map asset_outcome os) ≤ 662 * length os
long_assets [] h = omega arith
long_assets (o ∷ os) h = let a = long_asset o h.0 in let b = long_assets os h.1 in omega (arith, length-append (asset_outcome o) (flat_map asset_outcome os))

pub long_outcome : (os : List AssetOutcome) → IsOutcome os → length (outcome os) ≤ 2649
unfolding outcome
long_outcome os h = let a = long_assets os h.1.each in let b = h.0 in omega arith
