-- A plan is sound at each place where the whole plan is, and its person signed guarantees alone in its guarantors.
use Rattle.std.specs.Prelude.{◌≡◌, ◌≢◌, ℕ, Some, List, [], ◌∷◌}
use Rattle.std.specs.List.{AllByRecursion}
use Rattle.channel_values.specs.Parts.{FixedParts}
use Rattle.channel_values.specs.declared.chain.Signed.{Signed}
use Rattle.channel_values.specs.declared.value.AssetOutcome.{AssetOutcome}
use Rattle.channel_values.specs.declared.value.Dest.{Dest}
use Rattle.channel_values.specs.declared.value.Dest.TheVariants.{Person, Channel}
use Rattle.channel_values.specs.Rules.{Rules, KeepsFinal}
use Rattle.call_history.specs.Dues.{shape_in}
use Rattle.call_history.specs.History.{Legal}
use Rattle.call_history.specs.declared.entry.Entry.{Entry}
use Rattle.channel_safety.specs.Journals.{In, Line, made_in}
use Rattle.channel_safety.specs.Honest.{Honest}
use Rattle.channel_safety.specs.Premises.{Unforged, InTime}
use Rattle.channel_safety.specs.Occurring.{NoCollision, AreValid}
use Rattle.funding_plans.specs.declared.plan.Part.{Part}
use Rattle.funding_plans.specs.declared.plan.Part.TheVariants.{Root, OnLedger, End, Middle}
use Rattle.funding_plans.specs.Parts.{own_guarantor}
use Rattle.share_laws.specs.Places.{Order, plan, channels, counting, outcomes_of, IsPlace}
use Rattle.share_laws.specs.Kept.{SharesAreKept}
use Rattle.channel_values.specs.Outcomes.{AreApart}
use Rattle.share_laws.specs.Lines.{SignaturesAreFair}
use Rattle.share_laws.specs.Turns.{names}
use Rattle.share_laws.specs.Sound.{IsPromise, Guarantees}
use Rattle.share_laws.specs.Finality.{StepsKeepPossible, RestsOnNoPayments}
use Rattle.share_laws.specs.Plans.{IsPlan}
use Rattle.std.specs.Str.{bytes_eq}

-- an outcome is a guarantee of the joint channel for these destinations in each asset in which it is anything
abbrev pub Promises : (joint : List ℕ) → List Dest → List AssetOutcome → Type 0
Promises joint list o = (asset : ℕ) → IsPromise joint list (shape_in o asset)

-- each state that the person signed in the guarantor has such outcomes alone
abbrev pub SignsGuarantees : List Line → (guarantor joint : List ℕ) → List Dest → Type 0
SignsGuarantees journal guarantor joint list =
    (x : Line) (s : Signed) → In x journal → made_in guarantor x.deed ≡ Some s
    → AllByRecursion (Promises joint list) (outcomes_of s.state)

-- the guarantor isn't a payment channel
abbrev pub IsNoPayment : Rules → List Line → (guarantor : List ℕ) → Type 0
IsNoPayment r journal guarantor = (f : FixedParts) → In f (channels journal) → r.named f ≡ guarantor → f.app ≢ 1

-- Then whatever the guarantor can end with at any place guarantees that.
abbrev pub SignedGuaranteesStand : Type 0
SignedGuaranteesStand =
    (r : Rules) (key me : List ℕ) (h : List Entry) (journal : List Line) → KeepsFinal r → StepsKeepPossible r key me
    → Legal r h
    → Honest r key h journal → Unforged r key h journal → NoCollision r h journal → AreValid h journal
    → InTime r h journal
    → (guarantor joint : List ℕ) (list : List Dest) → SignsGuarantees journal guarantor joint list
    → IsNoPayment r journal guarantor
    → (past : List Entry) (front : List Line) → IsPlace h journal past front
    → Guarantees (counting r past front) guarantor joint list

-- the guarantors of a part, in which its person signed guarantees alone: an end's own, and both of an intermediary
abbrev pub HasSigned : Rules → List ℕ → List Line → Part → Type 0
HasSigned r me journal (Root c) = Unit {0}
HasSigned r me journal (OnLedger l c) = Unit {0}
HasSigned r me journal (End v) =
    IsNoPayment r journal (own_guarantor v)
    × ((third : Dest) × SignsGuarantees journal (own_guarantor v) v.joint (Channel v.channel ∷ Person me ∷ third ∷ []))
HasSigned r me journal (Middle v) =
    (IsNoPayment r journal v.guarantor_a
    × ((a : Dest) × SignsGuarantees journal v.guarantor_a v.joint (Channel v.channel ∷ a ∷ Person me ∷ [])))
    × (IsNoPayment r journal v.guarantor_b
    × ((b : Dest) × SignsGuarantees journal v.guarantor_b v.joint (Channel v.channel ∷ b ∷ Person me ∷ [])))

-- What a person keeps that plans fairly. Each channel stands once in its plan, and each ledger is a root, or the
-- channel of an end, that was opened before. Its channels differ, and no part rests on a payment channel. It signs
-- guarantees alone in its guarantors, and each signature lowers its share no more than it may.
pub record PlansFairly (r : Rules) (me : List ℕ) (orders : ℕ → Order) (h : List Entry)
    (journal : List Line) : Type 0 where
  pub whole : IsPlan (plan orders journal)
  pub channels_differ : AreApart bytes_eq (names r (channels journal))
  pub rests : RestsOnNoPayments r orders journal
  pub guarantors : AllByRecursion (HasSigned r me journal) (plan orders journal)
  pub signs : SignaturesAreFair r me orders h journal

-- Nobody lowers the share of an honest participant that plans fairly, whose watchers are in time.
abbrev pub FairSharesAreKept : Type 0
FairSharesAreKept =
    (r : Rules) (key me : List ℕ) (orders : ℕ → Order) (h : List Entry) (journal : List Line) → KeepsFinal r
    → StepsKeepPossible r key me → Legal r h
    → Honest r key h journal → Unforged r key h journal → NoCollision r h journal → AreValid h journal
    → InTime r h journal → PlansFairly r me orders h journal → SharesAreKept r me orders h journal
