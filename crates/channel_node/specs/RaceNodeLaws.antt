-- A node in a race, with any rules and any tables.
use Rattle.std.specs.Prelude.{◌≡◌, ℕ, List, ◌∷◌, ◌++◌, Some}
use Rattle.channel_values.specs.declared.chain.Signed.{Signed}
use Rattle.channel_values.specs.Rules.{Rules, KeepsFinal}
use Rattle.call_history.specs.declared.entry.Entry.{Entry}
use Rattle.channel_safety.specs.Journals.{noted_in}
use Rattle.channel_safety.specs.Premises.{Unforged, InTime}
use Rattle.channel_safety.specs.Occurring.{NoCollision, AreValid}
use Rattle.channel_safety.specs.Safety.{IsSafe}
use Rattle.channel_safety.specs.Races.{WasOpened, NotesLasting}
use Rattle.channel_node.specs.Tables.{Tables}
use Rattle.channel_node.specs.Places.{Told, lines_of}
use Rattle.channel_node.specs.Playing.{Signing, SignsWell, Plays}
use Rattle.channel_node.specs.Races.{OpensLasting, PlaysRace}

-- a state is signed or taken in a channel that an earlier line opened
abbrev pub StatesAreOfOpenedChannels : Type 0
StatesAreOfOpenedChannels =
    (t : Tables) (r : Rules) (s : Signing) (h : List Entry) (newer : List Told) (x : Told) (front : List Told)
    (channel : List ℕ) (state : Signed)
    → Plays t r s h (newer ++ x ∷ front) → noted_in channel x.deed ≡ Some state
    → WasOpened r (lines_of s.key front) channel

-- so where the opened channels have such durations, states are noted of those alone
abbrev pub LastingPlansAreNoted : Type 0
LastingPlansAreNoted =
    (t : Tables) (r : Rules) (s : Signing) (h : List Entry) (journal : List Told)
    → Plays t r s h journal → OpensLasting (lines_of s.key journal) → NotesLasting r (lines_of s.key journal)

-- in a race a node's watchers are in time
abbrev pub RacedNodesAreInTime : Type 0
RacedNodesAreInTime =
    (t : Tables) (r : Rules) (s : Signing) (h : List Entry) (journal : List Told) (ends : List ℕ)
    → PlaysRace t r s h journal ends → NoCollision r h (lines_of s.key journal) → InTime r h (lines_of s.key journal)

-- so no outcome becomes final for it that is older than what it noted or was shown
abbrev pub RacedNodesAreSafe : Type 0
RacedNodesAreSafe =
    (t : Tables) (r : Rules) (s : Signing) (h : List Entry) (journal : List Told) (ends : List ℕ)
    → KeepsFinal r → SignsWell r s → PlaysRace t r s h journal ends
    → Unforged r s.key h (lines_of s.key journal) → NoCollision r h (lines_of s.key journal)
    → AreValid h (lines_of s.key journal) → IsSafe r s.key h (lines_of s.key journal)
