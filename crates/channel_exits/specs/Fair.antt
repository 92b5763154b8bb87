-- An honest participant that plans fairly can leave: what it signed stands in for what its channels end with.
use Rattle.std.specs.Prelude.{◌≡◌, ◌≢◌, ℕ, ◌≤◌, List, [], ◌++◌, Some, None, reverse}
use Rattle.std.specs.List.{AllByRecursion}
use Rattle.channel_values.specs.declared.chain.Signed.{Signed}
use Rattle.channel_values.specs.declared.value.AssetOutcome.{AssetOutcome}
use Rattle.channel_values.specs.Rules.{Rules, KeepsFinal}
use Rattle.call_history.specs.Dues.{shape_in}
use Rattle.call_history.specs.History.{Legal, paid_to}
use Rattle.call_history.specs.declared.entry.Entry.{Entry}
use Rattle.channel_safety.specs.Journals.{In, Line, made_in}
use Rattle.channel_safety.specs.Honest.{Honest}
use Rattle.channel_safety.specs.Premises.{Unforged, InTime}
use Rattle.channel_safety.specs.Occurring.{NoCollision, AreValid}
use Rattle.funding_plans.specs.declared.plan.Part.{Part}
use Rattle.funding_plans.specs.declared.plan.Part.TheVariants.{Root, OnLedger, End, Middle}
use Rattle.funding_plans.specs.Parts.{own_guarantor}
use Rattle.share_laws.specs.Places.{Order, plan, outcomes_of, share, IsPlace}
use Rattle.share_laws.specs.Finality.{StepsKeepPossible}
use Rattle.share_laws.specs.Signed.{IsNoPayment, PlansFairly}
use Rattle.funding_plans.specs.Shapes.{items_in}
use Rattle.share_laws.specs.Lines.{AreInOrder, SignNothing}
use Rattle.channel_exits.specs.Calls.{exit_calls}
use Rattle.channel_exits.specs.Endings.{ended, AreFinal, Stand}

-- each state that the person signed in the channel has such outcomes alone
abbrev pub Signs : List Line → List ℕ → (List AssetOutcome → Type 0) → Type 0
Signs journal channel P =
    (x : Line) (s : Signed) → In x journal → made_in channel x.deed ≡ Some s → AllByRecursion P (outcomes_of s.state)

-- an outcome has something of the asset, and items of no other
abbrev pub HasAsset : (asset : ℕ) → List AssetOutcome → Type 0
HasAsset asset o = shape_in o asset ≢ None

abbrev pub HasNoOther : (asset : ℕ) → List AssetOutcome → Type 0
HasNoOther asset o = (other : ℕ) → other ≢ asset → items_in other o ≡ []

-- the person signed states of the part's asset in its guarantors, and items of no other asset in the joint channel
abbrev pub SignsInAsset : Rules → List Line → Part → Type 0
SignsInAsset r journal (Root c) = Unit {0}
SignsInAsset r journal (OnLedger l c) = Unit {0}
SignsInAsset r journal (End v) =
    IsNoPayment r journal v.joint
    × (Signs journal v.joint (HasNoOther v.asset) × Signs journal (own_guarantor v) (HasAsset v.asset))
SignsInAsset r journal (Middle v) =
    IsNoPayment r journal v.joint
    × (Signs journal v.joint (HasNoOther v.asset)
    × (Signs journal v.guarantor_a (HasAsset v.asset) × Signs journal v.guarantor_b (HasAsset v.asset)))

-- What a person keeps that can always leave: it plans fairly, and its virtual channels are of one asset.
pub record LeavesFairly (r : Rules) (me : List ℕ) (orders : ℕ → Order) (h : List Entry)
    (journal : List Line) : Type 0 where
  pub plans : PlansFairly r me orders h journal
  pub assets : AllByRecursion (SignsInAsset r journal) (plan orders journal)

-- Such an honest participant, whose watchers are in time, is paid at least its share once its channels are final and
-- the calls of its exit stand.
abbrev pub FairExitsPay : Type 0
FairExitsPay =
    (r : Rules) (key me : List ℕ) (orders : ℕ → Order) (h : List Entry) (journal : List Line) → KeepsFinal r
    → StepsKeepPossible r key me → Legal r h
    → Honest r key h journal → Unforged r key h journal → NoCollision r h journal → AreValid h journal
    → InTime r h journal → LeavesFairly r me orders h journal
    → (past later : List Entry) (front : List Line) → IsPlace h journal past front → h ≡ later ++ past
    → AreFinal r past front
    → Stand (reverse (exit_calls (ended r past) me (plan orders front))) later
    → (asset : ℕ) → share r me orders past front asset ≤ paid_to h me asset

-- So it is paid at least the share that it had when it began to leave. That is any place before, after which it signs
-- no state until its channels are final.
abbrev pub FairLeaversArePaid : Type 0
FairLeaversArePaid =
    (r : Rules) (key me : List ℕ) (orders : ℕ → Order) (h : List Entry) (journal : List Line) → KeepsFinal r
    → StepsKeepPossible r key me → Legal r h
    → Honest r key h journal → Unforged r key h journal → NoCollision r h journal → AreValid h journal
    → InTime r h journal → LeavesFairly r me orders h journal → AreInOrder journal
    → (past mid later : List Entry) (front newer : List Line) → IsPlace h journal past front
    → IsPlace h journal (mid ++ past) (newer ++ front) → SignNothing newer
    → h ≡ later ++ (mid ++ past) → AreFinal r (mid ++ past) (newer ++ front)
    → Stand (reverse (exit_calls (ended r (mid ++ past)) me (plan orders (newer ++ front)))) later
    → (asset : ℕ) → share r me orders past front asset ≤ paid_to h me asset
