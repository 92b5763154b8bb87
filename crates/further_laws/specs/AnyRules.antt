-- What an honest participant is safe from in a race, under any rules that keep final states.
use Rattle.std.specs.Prelude.{ℕ, List}
use Rattle.channel_values.specs.Rules.{Rules, KeepsFinal}
use Rattle.call_history.specs.History.{Legal}
use Rattle.call_history.specs.declared.entry.Entry.{Entry}
use Rattle.channel_safety.specs.Journals.{Line}
use Rattle.channel_safety.specs.Premises.{Unforged}
use Rattle.channel_safety.specs.Occurring.{NoCollision, AreValid}
use Rattle.channel_safety.specs.Honest.{Honest}
use Rattle.channel_safety.specs.Safety.{IsSafe}
use Rattle.channel_safety.specs.Races.{IsRaced, NotesLasting}

-- in a race no outcome becomes final for an honest participant that is older than what it noted or was shown
abbrev pub AnyRacedOutcomesAreNotOlder : Type 0
AnyRacedOutcomesAreNotOlder =
    (r : Rules) (key : List ℕ) (h : List Entry) (journal : List Line) (ends : List ℕ) → KeepsFinal r → Legal r h
    → Honest r key h journal → Unforged r key h journal → NoCollision r h journal → AreValid h journal
    → IsRaced h journal ends → NotesLasting r journal → IsSafe r key h journal
