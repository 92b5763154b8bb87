-- The laws of races, under any rules.
use Rattle.std.specs.Prelude.{◌≡◌, ℕ, ◌+◌, List, [], ◌∷◌, ◌++◌, length, Some}
use Rattle.channel_values.specs.Rules.{Rules}
use Rattle.call_history.specs.History.{time_set, now_of}
use Rattle.call_history.specs.declared.entry.Entry.{Entry}
use Rattle.channel_safety.specs.Journals.{Line}
use Rattle.channel_safety.specs.Premises.{InTime}
use Rattle.channel_safety.specs.Occurring.{NoCollision}
use Rattle.channel_safety.specs.Races.{IsRaced, StandForTwo, NotesLasting, over}
use Rattle.channel_safety.specs.Growing.{AreTimeless, HaveSeen, GainsRound}

-- in a race watchers are in time, where challenges stand open for two
abbrev pub RacesAreInTime : Type 0
RacesAreInTime =
    (r : Rules) (h : List Entry) (journal : List Line) (ends : List ℕ)
    → IsRaced h journal ends → StandForTwo r h journal → InTime r h journal

-- and they do where the opened channels have such durations and names determine them
abbrev pub LastingChannelsStandForTwo : Type 0
LastingChannelsStandForTwo =
    (r : Rules) (h : List Entry) (journal : List Line)
    → NotesLasting r journal → NoCollision r h journal → StandForTwo r h journal

-- nothing has happened yet
abbrev pub RacesBegin : Type 0
RacesBegin = IsRaced [] [] []

-- between rounds calls are entered, and a participant that has seen the last round and its time does what it does
abbrev pub RacesGoOn : Type 0
RacesGoOn =
    (h entered : List Entry) (journal gained : List Line) (ends : List ℕ)
    → IsRaced h journal ends → AreTimeless entered → HaveSeen (over ends) gained
    → IsRaced (entered ++ h) (gained ++ journal) ends

-- a participant that has noted nothing yet comes to a race
abbrev pub RacersJoin : Type 0
RacersJoin = (h : List Entry) (journal : List Line) (ends : List ℕ) → IsRaced h journal ends → IsRaced h [] ends

-- a round is run, and then its time is entered
abbrev pub RoundsEnd : Type 0
RoundsEnd =
    (h entered : List Entry) (journal gained : List Line) (ends : List ℕ) (e : Entry)
    → IsRaced h journal ends → AreTimeless entered → GainsRound (length h) (entered ++ h) gained
    → time_set e.op e.reply ≡ Some (now_of (entered ++ h) + 1)
    → IsRaced (e ∷ (entered ++ h)) (gained ++ journal) (length (entered ++ h) ∷ ends)

-- a round without a participant
abbrev pub RoundsPass : Type 0
RoundsPass =
    (h entered : List Entry) (ends : List ℕ) (e : Entry)
    → IsRaced h [] ends → AreTimeless entered → time_set e.op e.reply ≡ Some (now_of (entered ++ h) + 1)
    → IsRaced (e ∷ (entered ++ h)) [] (length (entered ++ h) ∷ ends)
