-- What is held of a channel in its set-up repeats the opening outcome, where nothing is forged.
use Rattle.std.specs.Prelude.{◌≡◌, ℕ, ◌*◌, ◌<◌, true, List, ◌++◌, Option, Some, None}
use Rattle.channel_values.specs.Parts.{FixedParts, StateParts}
use Rattle.channel_values.specs.declared.chain.Signed.{Signed}
use Rattle.channel_values.specs.declared.value.AssetOutcome.{AssetOutcome}
use Rattle.channel_values.specs.Rules.{people, newest}
use Rattle.call_history.specs.History.{Legal}
use Rattle.call_history.specs.Marked.{Marked}
use Rattle.call_history.specs.declared.entry.Entry.{Entry}
use Rattle.channel_safety.specs.Held.{held}
use Rattle.channel_safety.specs.Honest.{Honest}
use Rattle.channel_safety.specs.Journals.{In, Line, noted_in}
use Rattle.channel_safety.specs.Premises.{Unforged}
use Rattle.channel_safety.specs.Occurring.{NoCollision, AreValid}
use Rattle.channel_safety.specs.Safety.{IsChannelOf}
use Rattle.support_rules.specs.Real.{real}
use Rattle.fairness_laws.specs.Roots.{is_repeated}

-- what is signed and taken in the first round repeats the opening outcome, as stages want and take it
abbrev pub OpensWith : FixedParts → List AssetOutcome → List Line → Type 0
OpensWith f opening journal =
    (x : Line) (s : Signed) → In x journal → noted_in (real.named f) x.deed ≡ Some s → s.state.turn < people f → is_repeated opening s.state ≡ true

abbrev pub IsRepeatedIfAny : FixedParts → List AssetOutcome → Option Marked → Type 0
IsRepeatedIfAny f opening None = Unit {0}
IsRepeatedIfAny f opening (Some w) =
    (t : StateParts) → newest w.states ≡ Some t → t.turn < 2 * people f → is_repeated opening t ≡ true

-- At each place of a legal history and an honest journal the latest state that is held repeats it, while the set-up
-- lasts. `front` is what was written so far.
abbrev pub SetUpsAreCarried : Type 0
SetUpsAreCarried =
    (key : List ℕ) (h : List Entry) (journal : List Line) → Legal real h → Honest real key h journal
    → Unforged real key h journal → NoCollision real h journal → AreValid h journal
    → (f : FixedParts) (opening : List AssetOutcome) (seen : ℕ) → IsChannelOf key f journal seen → OpensWith f opening journal
    → (later past : List Entry) (newer front : List Line) → h ≡ later ++ past → journal ≡ newer ++ front
    → IsRepeatedIfAny f opening (held real f past front)
