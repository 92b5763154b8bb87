-- The channels on which parts rest, and when one outcome is no worse than another.
use Rattle.std.specs.Prelude.{◌≡◌, ℕ, ◌≤◌, true, List, [], ◌∷◌, flat_map}
use Rattle.channel_values.specs.declared.value.AssetOutcome.{AssetOutcome}
use Rattle.channel_values.specs.declared.value.Dest.TheVariants.{Person}
use Rattle.channel_values.specs.Amounts.{aff}
use Rattle.call_history.specs.Flows.{is_among}
use Rattle.funding_plans.specs.Parts.{own_ledger}
use Rattle.funding_plans.specs.Shapes.{items_in, list_in}
use Rattle.funding_plans.specs.declared.plan.Part.{Part}
use Rattle.funding_plans.specs.declared.plan.Part.TheVariants.{Root, OnLedger, End, Middle}

-- the ledgers and joint channels on which a part rests
abbrev pub bases_of : Part → List (List ℕ)
bases_of (Root c) = []
bases_of (OnLedger l c) = l ∷ []
bases_of (End v) = own_ledger v ∷ v.joint ∷ []
bases_of (Middle v) = v.ledger_a ∷ v.ledger_b ∷ v.joint ∷ []

abbrev pub all_bases : List Part → List (List ℕ)
all_bases parts = flat_map bases_of parts

-- In an asset p is no worse than o for the person me as the outcome of n. It affords as much, and where parts rest on
-- the channel it is the same.
pub record NoWorse (asset : ℕ) (me : List ℕ) (on : List (List ℕ)) (n : List ℕ) (o p : List AssetOutcome) : Type 0 where
  pub affords : (r : ℕ) → aff (items_in asset o) r (Person me) ≤ aff (items_in asset p) r (Person me)
  pub same : is_among n on ≡ true → items_in asset p ≡ items_in asset o
  pub list : list_in asset p ≡ list_in asset o
