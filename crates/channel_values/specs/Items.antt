-- One item of an outcome.
use Rattle.std.specs.Prelude.{ℕ, List, [], ◌∷◌, Option, None, ◌==◌, if◌then◌else◌, slice_get}
use Rattle.channel_values.specs.declared.value.Item.{Item}
use Rattle.channel_values.specs.declared.value.Shape.{Shape}
use Rattle.channel_values.specs.declared.value.Shape.TheVariants.{Allocation, Guarantee}
use Rattle.channel_values.specs.declared.value.AssetOutcome.{AssetOutcome}

-- the item at a place, where the shape is an allocation that has it
abbrev pub item_at_place : ℕ → Shape → Option Item
item_at_place place (Allocation items) = slice_get items place
item_at_place place (Guarantee target dests) = None

-- the item at a place of an asset's allocation
abbrev pub item_of : ℕ → ℕ → List AssetOutcome → Option Item
item_of asset place [] = None
item_of asset place (o ∷ os) = if o.asset == asset then item_at_place place o.shape else item_of asset place os
