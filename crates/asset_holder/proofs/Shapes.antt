-- What an outcome has for an asset is valid.
use Rattle.std.proofs.Common.{◌≡◌, ℕ, ◌==◌, Bool, true, false, cond, List, [], ◌∷◌, Some, None, sym, subst}
use Rattle.std.specs.Prelude.{Option, MatchOption}
use Rattle.std.specs.Option.{option_map}
use Rattle.std.specs.List.{AllByRecursion}
use Rattle.channel_values.specs.Outcomes.{IsShape, IsAssetOutcome}
use Rattle.channel_values.specs.declared.value.AssetOutcome.{AssetOutcome}
use Rattle.channel_values.specs.declared.value.Shape.{Shape}
use Rattle.call_history.specs.Dues.{shape_in}

abbrev pub IsValid : Option Shape → Type 0
IsValid None = Unit {0}
IsValid (Some shape) = IsShape shape

pub shape_valid : (os : List AssetOutcome) (asset : ℕ) → AllByRecursion IsAssetOutcome os → IsValid (shape_in os asset)
shape_valid [] asset each = tt
shape_valid (o ∷ os) asset each = go (o.asset == asset) (shape_valid os asset each.1)
  where
    go : (b : Bool) → IsValid (shape_in os asset) → IsValid (cond b (Some o.shape) (shape_in os asset))
    go true later = each.0.1
    go false later = later

-- the same of what a call answers by reference
pub found_shape : {A : Type 0} (now : A → Shape) (x : Option A) (o : Option Shape) → option_map now x ≡ o → MatchOption x (o ≡ None) (λ a. o ≡ Some (now a))
found_shape now None o is = sym is
found_shape now (Some a) o is = sym is

pub found_valid : {A : Type 0} (now : A → Shape) (x : Option A) (o : Option Shape) → option_map now x ≡ o → IsValid o → MatchOption x (Unit {0}) (λ a. IsShape (now a))
found_valid {A = A} now x o is valid = go x (subst IsValid (sym is) valid)
  where
    go : (y : Option A) → IsValid (option_map now y) → MatchOption y (Unit {0}) (λ a. IsShape (now a))
    go None v = tt
    go (Some a) v = v
