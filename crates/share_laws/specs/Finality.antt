-- Channels end well: what a participant's channel becomes final with is no worse than what was possible when it last
-- signed.
use Rattle.std.specs.Prelude.{◌≡◌, ◌≢◌, ℕ, ◌<◌, ◌≤◌, true, List, ◌∷◌, length, Some}
use Rattle.std.specs.List.{slice_get, AllByRecursion}
use Rattle.channel_values.specs.Parts.{FixedParts, StateParts, IsFixed, IsState}
use Rattle.channel_values.specs.declared.value.AssetOutcome.{AssetOutcome}
use Rattle.channel_values.specs.declared.value.Dest.TheVariants.{Person}
use Rattle.channel_values.specs.Amounts.{aff}
use Rattle.channel_values.specs.Rows.{mover, last_of}
use Rattle.channel_values.specs.Rules.{Rules, people, KeepsFinal}
use Rattle.channel_values.specs.Supported.{AreSteps}
use Rattle.call_history.specs.Flows.{is_among}
use Rattle.call_history.specs.History.{Legal}
use Rattle.call_history.specs.declared.entry.Entry.{Entry}
use Rattle.channel_safety.specs.Journals.{In, Line}
use Rattle.channel_safety.specs.Honest.{Honest}
use Rattle.channel_safety.specs.Premises.{Unforged, InTime}
use Rattle.channel_safety.specs.Occurring.{NoCollision, AreValid}
use Rattle.share_laws.specs.Places.{Order, plan, channels, counting, outcomes_of, IsPlace}
use Rattle.share_laws.specs.Kept.{SharesAreKept}
use Rattle.channel_values.specs.Outcomes.{AreApart}
use Rattle.share_laws.specs.Lines.{SignaturesAreFair}
use Rattle.share_laws.specs.Sound.{IsSound}
use Rattle.share_laws.specs.Bases.{all_bases}
use Rattle.funding_plans.specs.Shapes.{items_in, list_in}
use Rattle.support_rules.specs.May.{OneOf}
use Rattle.share_laws.specs.Turns.{names}
use Rattle.share_laws.specs.Whole.{EndsWell}
use Rattle.std.specs.Str.{bytes_eq}

-- The outcome p may stand for o: it is no worse for the person me, and outside payment channels, whose application is
-- 1, it is o.
pub record StandsFor (f : FixedParts) (me : List ℕ) (o p : List AssetOutcome) : Type 0 where
  pub affords : (asset reach : ℕ) → aff (items_in asset o) reach (Person me) ≤ aff (items_in asset p) reach (Person me)
  pub list : (asset : ℕ) → list_in asset p ≡ list_in asset o
  pub same : f.app ≢ 1 → p ≡ o

-- Fewer than n steps of others after a state of the participant end in an outcome that was possible then.
abbrev pub StepsKeepPossible : Rules → (key me : List ℕ) → Type 0
StepsKeepPossible r key me =
    (f : FixedParts) → IsFixed f → (j : ℕ) → slice_get f.keys j ≡ Some key → (s : StateParts) → IsState s
    → (ts : List StateParts) → AllByRecursion IsState ts → AreSteps r f s ts → length ts < people f
    → AllByRecursion (λ t. mover (people f) t.turn ≢ j) ts
    → OneOf (λ o. StandsFor f me o (last_of s ts).outcome) (outcomes_of s)

-- no part rests on a payment channel
abbrev pub RestsOnNoPayments : Rules → (ℕ → Order) → List Line → Type 0
RestsOnNoPayments r orders front =
    (f : FixedParts) → In f (channels front) → is_among (r.named f) (all_bases (plan orders front)) ≡ true → f.app ≢ 1

-- So with watchers in time, nothing forged and no collision each channel ends well.
abbrev pub FinalsEndWell : Type 0
FinalsEndWell =
    (r : Rules) (key me : List ℕ) (orders : ℕ → Order) (h : List Entry) (journal : List Line) → KeepsFinal r
    → StepsKeepPossible r key me → Legal r h
    → Honest r key h journal → Unforged r key h journal → NoCollision r h journal → AreValid h journal
    → InTime r h journal
    → (past : List Entry) (e : Entry) (front : List Line) → IsPlace h journal past front
    → IsPlace h journal (e ∷ past) front
    → RestsOnNoPayments r orders front → EndsWell r me orders past e front

-- What is known of a plan at each place of a history and a journal: it is sound, no part rests on a payment channel,
-- and its person signs fairly.
pub record PlansWell (r : Rules) (me : List ℕ) (orders : ℕ → Order) (h : List Entry)
    (journal : List Line) : Type 0 where
  pub channels_differ : AreApart bytes_eq (names r (channels journal))
  pub sound :
      (past : List Entry) (front : List Line) → IsPlace h journal past front
      → IsSound me (plan orders front) (counting r past front)
  pub rests : (past : List Entry) (front : List Line) → IsPlace h journal past front → RestsOnNoPayments r orders front
  pub signs : SignaturesAreFair r me orders h journal

-- So nobody lowers the share of an honest participant whose watchers are in time.
abbrev pub HonestSharesAreKept : Type 0
HonestSharesAreKept =
    (r : Rules) (key me : List ℕ) (orders : ℕ → Order) (h : List Entry) (journal : List Line) → KeepsFinal r
    → StepsKeepPossible r key me → Legal r h
    → Honest r key h journal → Unforged r key h journal → NoCollision r h journal → AreValid h journal
    → InTime r h journal → PlansWell r me orders h journal → SharesAreKept r me orders h journal
