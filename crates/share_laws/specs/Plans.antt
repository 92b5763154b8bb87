-- Plans in which each channel stands once, and each ledger is a root, or the channel of an end, that was opened
-- before the parts on it.
use Rattle.std.specs.Prelude.{◌≡◌, ℕ, true, false, List, [], ◌∷◌, ◌⊎◌}
use Rattle.std.specs.Str.{bytes_eq}
use Rattle.channel_values.specs.Outcomes.{AreApart}
use Rattle.channel_values.specs.declared.value.Dest.TheVariants.{Channel}
use Rattle.channel_values.specs.declared.value.Item.{Item}
use Rattle.channel_values.specs.Amounts.{has}
use Rattle.call_history.specs.Flows.{is_among}
use Rattle.channel_safety.specs.Journals.{In}
use Rattle.funding_plans.specs.declared.plan.Part.{Part}
use Rattle.funding_plans.specs.declared.plan.Part.TheVariants.{Root, OnLedger, End, Middle}
use Rattle.funding_plans.specs.Parts.{own_ledger, own_guarantor, channels}
use Rattle.share_laws.specs.Books.{Books}
use Rattle.share_laws.specs.Worth.{Table, reach_after}

-- the part's ledgers are among these
abbrev pub StandsOn : List (List ℕ) → Part → Type 0
StandsOn ledgers (Root c) = Unit {0}
StandsOn ledgers (OnLedger l c) = is_among l ledgers ≡ true
StandsOn ledgers (End v) = is_among (own_ledger v) ledgers ≡ true
StandsOn ledgers (Middle v) = (is_among v.ledger_a ledgers ≡ true) × (is_among v.ledger_b ledgers ≡ true)

-- the channels on which a later part may stand: roots, and the channels of ends
abbrev pub ledgers_after : List (List ℕ) → Part → List (List ℕ)
ledgers_after ledgers (Root c) = c ∷ ledgers
ledgers_after ledgers (OnLedger l c) = ledgers
ledgers_after ledgers (End v) = v.channel ∷ ledgers
ledgers_after ledgers (Middle v) = ledgers

abbrev pub AllStandOn : List (List ℕ) → List Part → Type 0
AllStandOn ledgers [] = Unit {0}
AllStandOn ledgers (p ∷ ps) = StandsOn ledgers p × AllStandOn (ledgers_after ledgers p) ps

pub record IsPlan (parts : List Part) : Type 0 where
  pub apart : AreApart bytes_eq (channels parts)
  pub on_ledgers : AllStandOn [] parts

-- ---- what a ledger lends

-- the ledger l lends the part what it sets aside for the channel c
abbrev pub Lends : Part → (l c : List ℕ) → Type 0
Lends (Root n) l c = ⊥
Lends (OnLedger m n) l c = (m ≡ l) × (n ≡ c)
Lends (End v) l c = (own_ledger v ≡ l) × (own_guarantor v ≡ c)
Lends (Middle v) l c = ((v.ledger_a ≡ l) × (v.guarantor_a ≡ c)) ⊎ ((v.ledger_b ≡ l) × (v.guarantor_b ≡ c))

-- these items of the ledger l set nothing aside for a part of the plan
abbrev pub IsBare : List Part → (l : List ℕ) → List Item → Type 0
IsBare ps l items = (p : Part) (c : List ℕ) → In p ps → Lends p l c → has items (Channel c) ≡ false

-- the reaches of the channels on which parts may stand, once all parts are there
abbrev pub reaches : Books → Table → List Part → Table
reaches b reach [] = reach
reaches b reach (p ∷ ps) = reaches b (reach_after b reach p) ps
