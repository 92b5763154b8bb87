-- The laws over every history and every journal, under any rules that keep final states.
use Rattle.std.specs.Prelude.{ℕ, ◌≤◌, List}
use Rattle.channel_values.specs.Parts.{FixedParts}
use Rattle.channel_values.specs.Rules.{Rules, people, KeepsFinal}
use Rattle.call_history.specs.History.{Legal}
use Rattle.call_history.specs.declared.entry.Entry.{Entry}
use Rattle.channel_safety.specs.Journals.{Line}
use Rattle.channel_safety.specs.Held.{held}
use Rattle.channel_safety.specs.Good.{IsGoodIfAny}
use Rattle.channel_safety.specs.Premises.{Unforged, InTime}
use Rattle.channel_safety.specs.Occurring.{NoCollision, AreValid}
use Rattle.channel_safety.specs.Honest.{Honest, TakesPart}
use Rattle.channel_safety.specs.Safety.{IsSafe}
use Rattle.channel_safety.specs.Steps.{HasStepsAfterLast, FewAreCleared}

-- no outcome becomes final for an honest participant with watchers in time that is older than what it noted or was
-- shown
abbrev pub OutcomesAreNotOlder : Type 0
OutcomesAreNotOlder =
    (r : Rules) (key : List ℕ) (h : List Entry) (journal : List Line) → KeepsFinal r → Legal r h
    → Honest r key h journal → Unforged r key h journal → NoCollision r h journal → AreValid h journal
    → InTime r h journal → IsSafe r key h journal

-- what is held is the first round so far, or a supported chain
abbrev pub HeldChainsAreSupported : Type 0
HeldChainsAreSupported =
    (r : Rules) (f : FixedParts) (h : List Entry) (journal : List Line) → 1 ≤ people f
    → IsGoodIfAny r f (held r f h journal)

-- each step after the last state that a participant signed is in each chain that is shown at its turn or later
abbrev pub ShownChainsHaveTheSteps : Type 0
ShownChainsHaveTheSteps =
    (r : Rules) (key : List ℕ) (h : List Entry) (journal : List Line) → KeepsFinal r → Legal r h
    → Honest r key h journal → Unforged r key h journal → NoCollision r h journal
    → AreValid h journal → HasStepsAfterLast r key h journal

-- of a participant's challenges of a channel of n, at most n - 1 are cleared by another entry than a conclude
abbrev pub FewChallengesAreCleared : Type 0
FewChallengesAreCleared =
    (r : Rules) (key : List ℕ) (h : List Entry) (journal : List Line) → KeepsFinal r → Legal r h
    → Honest r key h journal → Unforged r key h journal → NoCollision r h journal
    → AreValid h journal → FewAreCleared r key h journal

-- an honest participant is in each channel that its journal opens
abbrev pub HonestTakePart : Type 0
HonestTakePart =
    (r : Rules) (key : List ℕ) (h : List Entry) (journal : List Line) → Honest r key h journal → TakesPart key journal
