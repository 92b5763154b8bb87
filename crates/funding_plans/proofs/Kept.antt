-- What an outcome has for an asset is few, and adds up to an amount.
use Rattle.std.proofs.lemmas.Grind.{common_steps}
use Rattle.std.proofs.Common.{◌≤◌, ◌<◌, ◌^◌, ℕ, Bool, true, false, List, [], ◌∷◌, Option, Some, None, length, arith}
use Rattle.std.specs.Prelude.{◌==◌, if◌then◌else◌}
use Rattle.std.specs.List.{AllByRecursion}
use Rattle.channel_values.specs.declared.value.AssetOutcome.{AssetOutcome}
use Rattle.channel_values.specs.declared.value.Shape.{Shape}
use Rattle.channel_values.specs.declared.value.Shape.TheVariants.{Allocation, Guarantee}
use Rattle.channel_values.specs.Outcomes.{total, IsShape, IsAssetOutcome, IsOutcome}
use Rattle.call_history.specs.Dues.{shape_in}
use Rattle.funding_plans.specs.Shapes.{items_of, list_of, items_in, list_in}

record IsFew (s : Option Shape) : Type 0 where
  pub items : length (items_of s) ≤ 16
  pub within : total (items_of s) < 2 ^ 64
  pub list : length (list_of s) ≤ 16

none_within : total [] < 2 ^ 64
none_within = grind (arith, common_steps)

none_few : IsFew None
none_few = record { items = omega arith; within = none_within; list = omega arith }

shape_few : (s : Shape) → IsShape s → IsFew (Some s)
shape_few (Allocation items) h = record { items = h.0; within = h.1.within; list = omega arith }
shape_few (Guarantee target dests) h = record { items = omega arith; within = none_within; list = h.1 }

pick : (b : Bool) (s : Shape) (r : Option Shape) → IsFew (Some s) → IsFew r → IsFew (if b then Some s else r)
pick true s r h k = h
pick false s r h k = k

few_in : (asset : ℕ) (os : List AssetOutcome) → AllByRecursion IsAssetOutcome os → IsFew (shape_in os asset)
few_in asset [] h = none_few
few_in asset (o ∷ os) h = pick (o.asset == asset) o.shape (shape_in os asset) (shape_few o.shape h.0.1) (few_in asset os h.1)

pub items_are_few : (asset : ℕ) (os : List AssetOutcome) → IsOutcome os → length (items_in asset os) ≤ 16
items_are_few asset os valid = (few_in asset os valid.1.each).items

pub items_are_within : (asset : ℕ) (os : List AssetOutcome) → IsOutcome os → total (items_in asset os) < 2 ^ 64
items_are_within asset os valid = (few_in asset os valid.1.each).within

pub list_is_few : (asset : ℕ) (os : List AssetOutcome) → IsOutcome os → length (list_in asset os) ≤ 16
list_is_few asset os valid = (few_in asset os valid.1.each).list
