-- The exit pays the share: once its calls stand in a history, whatever else does and whatever they were answered.
use Rattle.std.specs.Prelude.{◌≡◌, ℕ, ◌≤◌, true, false, List, [], ◌∷◌, ◌++◌, ◌⊎◌, reverse, None}
use Rattle.std.specs.List.{AllByRecursion, flat_map}
use Rattle.std.specs.Str.{bytes_eq}
use Rattle.channel_values.specs.Rules.{Rules}
use Rattle.call_history.specs.Dues.{shape_in}
use Rattle.call_history.specs.History.{Legal, paid_to}
use Rattle.call_history.specs.declared.entry.Entry.{Entry}
use Rattle.channel_safety.specs.Journals.{In, Line}
use Rattle.funding_plans.specs.declared.plan.Part.{Part}
use Rattle.funding_plans.specs.declared.plan.Part.TheVariants.{Root, OnLedger, End, Middle}
use Rattle.funding_plans.specs.declared.plan.Virtual.{Virtual}
use Rattle.share_laws.specs.Books.{Counting, outcome_in, counts_in}
use Rattle.funding_plans.specs.Parts.{own_ledger, own_guarantor}
use Rattle.share_laws.specs.Places.{Order, plan, counting, share, IsPlace}
use Rattle.channel_safety.specs.Occurring.{NoCollision}
use Rattle.channel_values.specs.Outcomes.{AreApart}
use Rattle.share_laws.specs.Sound.{IsSound}
use Rattle.channel_exits.specs.Calls.{exits, exit_calls}
use Rattle.channel_exits.specs.Endings.{ended, AreFinal, Stand}
use Rattle.funding_plans.specs.Shapes.{items_in}

-- a ledger is a root of the plan, or the channel of an end among the parts before
abbrev pub IsLedger : (parts before : List Part) → List ℕ → Type 0
IsLedger parts before l = In (Root l) parts ⊎ ((v : Virtual) × In (End v) before × (v.channel ≡ l))

abbrev pub IsOnLedgers : (parts before : List Part) → Part → Type 0
IsOnLedgers parts before (Root c) = Unit {0}
IsOnLedgers parts before (OnLedger l c) = IsLedger parts before l
IsOnLedgers parts before (End v) = IsLedger parts before (own_ledger v)
IsOnLedgers parts before (Middle v) = IsLedger parts before v.ledger_a × IsLedger parts before v.ledger_b

-- these parts, which come after those, stand on such ledgers
abbrev pub AreOnLedgers : (parts before : List Part) → List Part → Type 0
AreOnLedgers parts before [] = Unit {0}
AreOnLedgers parts before (p ∷ ps) = IsOnLedgers parts before p × AreOnLedgers parts (p ∷ before) ps

-- a virtual channel isn't a guarantor of its own
abbrev pub IsApartFromGuarantors : Part → Type 0
IsApartFromGuarantors (Root c) = Unit {0}
IsApartFromGuarantors (OnLedger l c) = Unit {0}
IsApartFromGuarantors (End v) = bytes_eq v.channel (own_guarantor v) ≡ false
IsApartFromGuarantors (Middle v) =
    (bytes_eq v.channel v.guarantor_a ≡ false) × (bytes_eq v.channel v.guarantor_b ≡ false)

-- where a guarantor that counts guarantees nothing of an asset, the joint channel has no items of it
abbrev pub IsBackedBy : List Counting → (guarantor joint : List ℕ) → Type 0
IsBackedBy counting guarantor joint =
    (asset : ℕ) → counts_in counting guarantor ≡ true → shape_in (outcome_in counting [] guarantor) asset ≡ None
    → items_in asset (outcome_in counting [] joint) ≡ []

abbrev pub IsBacked : List Counting → Part → Type 0
IsBacked counting (Root c) = Unit {0}
IsBacked counting (OnLedger l c) = Unit {0}
IsBacked counting (End v) = IsBackedBy counting (own_guarantor v) v.joint
IsBacked counting (Middle v) = IsBackedBy counting v.guarantor_a v.joint × IsBackedBy counting v.guarantor_b v.joint

-- What a plan keeps so that its person can leave at a place. It is sound, no channel pays in two parts' exits, and
-- each ledger is a root or the channel of an end before. Items of a joint channel are guaranteed, and each channel
-- that counts is final.
pub record CanExit (r : Rules) (me : List ℕ) (orders : ℕ → Order) (past : List Entry) (front : List Line) : Type 0 where
  pub sound : IsSound me (plan orders front) (counting r past front)
  pub apart : AreApart bytes_eq (flat_map exits (plan orders front))
  pub channels : AllByRecursion IsApartFromGuarantors (plan orders front)
  pub on_ledgers : AreOnLedgers (plan orders front) [] (plan orders front)
  pub backed : AllByRecursion (IsBacked (counting r past front)) (plan orders front)
  pub final : AreFinal r past front

-- Where the person me can exit at a place, and the calls of its exit stand after it, it was paid at least its share
-- there.
pub record ExitsPay (r : Rules) (me : List ℕ) (orders : ℕ → Order) (h : List Entry) (journal : List Line) : Type 0 where
  pub pays :
      (past later : List Entry) (front : List Line) → IsPlace h journal past front → h ≡ later ++ past
      → CanExit r me orders past front
      → Stand (reverse (exit_calls (ended r past) me (plan orders front))) later
      → (asset : ℕ) → share r me orders past front asset ≤ paid_to h me asset

-- over every legal history and any journal
abbrev pub ExitPaysShare : Type 0
ExitPaysShare =
    (r : Rules) (me : List ℕ) (orders : ℕ → Order) (h : List Entry) (journal : List Line)
    → Legal r h → NoCollision r h journal → ExitsPay r me orders h journal
