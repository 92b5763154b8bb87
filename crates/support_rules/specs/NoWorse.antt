-- When an outcome is no worse for a destination.
use Rattle.std.specs.Prelude.{◌≡◌, ℕ, ◌≤◌, List, [], ◌∷◌}
use Rattle.channel_values.specs.declared.value.Dest.{Dest}
use Rattle.channel_values.specs.declared.value.Item.{Item}
use Rattle.channel_values.specs.declared.value.Shape.{Shape}
use Rattle.channel_values.specs.declared.value.Shape.TheVariants.{Allocation, Guarantee}
use Rattle.channel_values.specs.declared.value.AssetOutcome.{AssetOutcome}
use Rattle.channel_values.specs.Outcomes.{total}
use Rattle.channel_values.specs.Amounts.{amt, aff, has}

-- the items ys are no worse for d than xs: at no reach is d afforded less
pub record ItemsNoWorse (d : Dest) (xs ys : List Item) : Type 0 where
  pub affords : (r : ℕ) → aff xs r d ≤ aff ys r d
  pub amount : amt xs d ≤ amt ys d
  pub names : (q : Dest) → has ys q ≡ has xs q
  pub total : total ys ≡ total xs

abbrev pub ShapeNoWorse : Dest → Shape → Shape → Type 0
ShapeNoWorse d (Allocation xs) (Allocation ys) = ItemsNoWorse d xs ys
ShapeNoWorse d (Allocation xs) (Guarantee u es) = ⊥
ShapeNoWorse d (Guarantee t ds) (Allocation ys) = ⊥
ShapeNoWorse d (Guarantee t ds) (Guarantee u es) = (u ≡ t) × (es ≡ ds)

-- an outcome is no worse for d than the first: the same assets, each no worse
abbrev pub NoWorse : Dest → List AssetOutcome → List AssetOutcome → Type 0
NoWorse d [] [] = Unit {0}
NoWorse d [] (b ∷ bs) = ⊥
NoWorse d (a ∷ as') [] = ⊥
NoWorse d (a ∷ as') (b ∷ bs) = (b.asset ≡ a.asset) × ShapeNoWorse d a.shape b.shape × NoWorse d as' bs
