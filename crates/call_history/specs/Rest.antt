-- What is left of a final outcome: each item less what was paid of it.
use Rattle.std.specs.Prelude.{ℕ, zero, suc, ◌-◌, ◌==◌, List, [], ◌∷◌, Option, Some, if◌then◌else◌}
use Rattle.channel_values.specs.declared.value.Item.{Item}
use Rattle.channel_values.specs.declared.value.Shape.{Shape}
use Rattle.channel_values.specs.declared.value.Shape.TheVariants.{Allocation, Guarantee}
use Rattle.channel_values.specs.declared.value.AssetOutcome.{AssetOutcome}
use Rattle.call_history.specs.Dues.{amount_at, shape_in}

-- items of which the first has this place
abbrev pub less_paid : (ℕ → ℕ) → ℕ → List Item → List Item
less_paid paid place [] = []
less_paid paid place (item ∷ items) =
    record { to = item.to; amount = item.amount - paid place } ∷ less_paid paid (suc place) items

abbrev pub rest_shape : (ℕ → ℕ) → Shape → Shape
rest_shape paid (Allocation items) = Allocation (less_paid paid 0 items)
rest_shape paid (Guarantee target list) = Guarantee target list

-- the rest of an outcome, where `paid` says what was paid for each asset and place
abbrev pub rest_outcome : (ℕ → ℕ → ℕ) → List AssetOutcome → List AssetOutcome
rest_outcome paid [] = []
rest_outcome paid (o ∷ os) =
    record { asset = o.asset; shape = rest_shape (paid o.asset) o.shape } ∷ rest_outcome paid os

-- the amount at a place of an asset's items, or 0
abbrev pub amount_in : Option Shape → ℕ → ℕ
amount_in (Some (Allocation items)) place = amount_at items place
amount_in _ place = 0

abbrev pub left_of : List AssetOutcome → ℕ → ℕ → ℕ
left_of outcome asset place = amount_in (shape_in outcome asset) place

-- the item at a place lowered, and nothing else
abbrev pub lower_at : List Item → ℕ → ℕ → List Item
lower_at [] place amount = []
lower_at (x ∷ xs) zero amount = record { to = x.to; amount = x.amount - amount } ∷ xs
lower_at (x ∷ xs) (suc place) amount = x ∷ lower_at xs place amount

abbrev pub lower_shape : Shape → ℕ → ℕ → Shape
lower_shape (Allocation items) place amount = Allocation (lower_at items place amount)
lower_shape (Guarantee target list) place amount = Guarantee target list

abbrev pub lower_outcome : List AssetOutcome → ℕ → ℕ → ℕ → List AssetOutcome
lower_outcome [] asset place amount = []
lower_outcome (o ∷ os) asset place amount =
    record { asset = o.asset; shape = if o.asset == asset then lower_shape o.shape place amount else o.shape }
    ∷ lower_outcome os asset place amount
