-- What an honest participant's plan keeps: who pays in which part, and what its guarantors guarantee.
use Rattle.std.specs.Prelude.{◌≡◌, ℕ, false, List, [], ◌∷◌, Option, Some, None}
use Rattle.std.specs.List.{AllByRecursion}
use Rattle.std.specs.Str.{bytes_eq}
use Rattle.channel_values.specs.declared.value.Dest.{Dest}
use Rattle.channel_values.specs.declared.value.Dest.TheVariants.{Person, Channel}
use Rattle.channel_values.specs.declared.value.Shape.{Shape}
use Rattle.channel_values.specs.declared.value.Shape.TheVariants.{Guarantee}
use Rattle.call_history.specs.Dues.{shape_in}
use Rattle.funding_plans.specs.declared.plan.Part.{Part}
use Rattle.funding_plans.specs.declared.plan.Part.TheVariants.{Root, OnLedger, End, Middle}
use Rattle.share_laws.specs.Books.{Counting, outcome_in}
use Rattle.funding_plans.specs.Parts.{own_ledger, own_guarantor}
use Rattle.share_laws.specs.Moved.{all_payers}
use Rattle.channel_values.specs.Outcomes.{AreApart}

-- a guarantee of the joint channel for these destinations, if there is anything
abbrev pub IsPromise : List ℕ → List Dest → Option Shape → Type 0
IsPromise joint list None = Unit {0}
IsPromise joint list (Some shape) = shape ≡ Guarantee joint list

-- whatever the channel ends with, it guarantees that in each asset
abbrev pub Guarantees : List Counting → List ℕ → (joint : List ℕ) → List Dest → Type 0
Guarantees counting guarantor joint list =
    (taken : List (List ℕ)) (asset : ℕ) → IsPromise joint list (shape_in (outcome_in counting taken guarantor) asset)

-- an end's guarantor guarantees for the channel, the person and the intermediary; an intermediary's two for the
-- channel, the end and the person
abbrev pub IsGuaranteed : List ℕ → List Counting → Part → Type 0
IsGuaranteed me counting (Root c) = Unit {0}
IsGuaranteed me counting (OnLedger l c) = Unit {0}
IsGuaranteed me counting (End v) =
    (third : Dest) × Guarantees counting (own_guarantor v) v.joint (Channel v.channel ∷ Person me ∷ third ∷ [])
IsGuaranteed me counting (Middle v) =
    ((a : Dest) × Guarantees counting v.guarantor_a v.joint (Channel v.channel ∷ a ∷ Person me ∷ []))
    × ((b : Dest) × Guarantees counting v.guarantor_b v.joint (Channel v.channel ∷ b ∷ Person me ∷ []))

-- an end's joint channel isn't its ledger, and an intermediary's guarantors are two
abbrev pub IsApart : Part → Type 0
IsApart (Root c) = Unit {0}
IsApart (OnLedger l c) = Unit {0}
IsApart (End v) = bytes_eq v.joint (own_ledger v) ≡ false
IsApart (Middle v) = bytes_eq v.guarantor_a v.guarantor_b ≡ false

-- and no channel pays in two parts
pub record IsSound (me : List ℕ) (parts : List Part) (counting : List Counting) : Type 0 where
  pub payers : AreApart bytes_eq (all_payers parts)
  pub apart : AllByRecursion IsApart parts
  pub guarantors : AllByRecursion (IsGuaranteed me counting) parts
