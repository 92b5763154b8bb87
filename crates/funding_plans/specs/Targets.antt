-- The outcomes of the channels between two ends and an intermediary.
use Rattle.std.specs.Prelude.{ℕ, ◌+◌, ◌==◌, Bool, true, false, ◌&&◌, List, [], ◌∷◌, Option, Some, None, Result, Ok, Err}
use Rattle.std.specs.Str.{bytes_eq}
use Rattle.channel_values.specs.declared.fault.ByteFault.{ByteFault}
use Rattle.channel_values.specs.declared.value.Dest.{Dest}
use Rattle.channel_values.specs.declared.value.Dest.TheVariants.{Person, Channel}
use Rattle.channel_values.specs.declared.value.Item.{Item}
use Rattle.channel_values.specs.declared.value.Shape.{Shape}
use Rattle.channel_values.specs.declared.value.Shape.TheVariants.{Allocation, Guarantee}
use Rattle.channel_values.specs.declared.value.AssetOutcome.{AssetOutcome}
use Rattle.channel_values.specs.Items.{item_of}
use Rattle.channel_values.specs.Spelling.{outcome}
use Rattle.channel_values.specs.Reading.{outcome_of}
use Rattle.funding_plans.specs.Outcomes.{amounts_in}
use Rattle.funding_plans.specs.declared.terms.Terms.{Terms}

abbrev pub pays : Dest → ℕ → Item
pays to amount = record { to = to; amount = amount }

abbrev pub only : ℕ → Shape → List AssetOutcome
only asset shape = record { asset = asset; shape = shape } ∷ []

-- in the joint channel: two amounts for the ends, and the total for the intermediary
abbrev pub apart : Terms → ℕ × ℕ → List AssetOutcome
apart v ab = only v.asset (Allocation (pays (Person v.first) ab.0 ∷ pays (Person v.second) ab.1 ∷ pays (Person v.middle) v.total ∷ []))

-- the total for the payment channel, and the same for the intermediary
abbrev pub together : Terms → List AssetOutcome
together v = only v.asset (Allocation (pays (Channel v.channel) v.total ∷ pays (Person v.middle) v.total ∷ []))

-- what a guarantor of the joint channel opens with, for an end
abbrev pub guarantee : Terms → List ℕ → List ℕ → List AssetOutcome
guarantee v joint end = only v.asset (Guarantee joint (Channel v.channel ∷ Person end ∷ Person v.middle ∷ []))

-- what the ends have in an outcome
abbrev pub ends_in : Terms → List AssetOutcome → ℕ × ℕ
ends_in v os = amounts_in v.asset v.first v.second os

-- ---- which amounts for the ends an outcome of the joint channel has, where it is such a one and they make up the
-- total

abbrev pub amounts_if : Bool → ℕ × ℕ → Option (ℕ × ℕ)
amounts_if true ab = Some ab
amounts_if false ab = None

-- the bytes spell the outcome that has these amounts for the ends, and they make up the total
abbrev pub is_apart : Terms → List ℕ → ℕ × ℕ → Bool
is_apart v bytes ab = (ab.0 + ab.1 == v.total) && bytes_eq bytes (outcome (apart v ab))

abbrev pub apart_with : Terms → List ℕ → Option Item → Option Item → Option (ℕ × ℕ)
apart_with v bytes (Some i) (Some j) = amounts_if (is_apart v bytes (i.amount, j.amount)) (i.amount, j.amount)
apart_with v bytes _ _ = None

abbrev pub apart_in : Terms → List AssetOutcome → Option (ℕ × ℕ)
apart_in v os = apart_with v (outcome os) (item_of v.asset 0 os) (item_of v.asset 1 os)

abbrev pub apart_read : Terms → Result (List AssetOutcome) ByteFault → Option (ℕ × ℕ)
apart_read v (Ok os) = apart_in v os
apart_read v (Err fault) = None

abbrev pub apart_spelled : Terms → List ℕ → Option (ℕ × ℕ)
apart_spelled v bytes = apart_read v (outcome_of bytes)
