-- The journal of a node in a race.
use Rattle.std.specs.Prelude.{ℕ, ◌≤◌, List}
use Rattle.channel_values.specs.Parts.{FixedParts}
use Rattle.channel_values.specs.Rules.{Rules}
use Rattle.call_history.specs.History.{Legal}
use Rattle.call_history.specs.declared.entry.Entry.{Entry}
use Rattle.channel_safety.specs.Journals.{In, Line, opened}
use Rattle.channel_safety.specs.Races.{IsRaced}
use Rattle.channel_node.specs.Tables.{Tables}
use Rattle.channel_node.specs.Places.{Told, lines_of}
use Rattle.channel_node.specs.Playing.{Signing, Plays}

-- each channel that is opened has a duration of two or more
abbrev pub OpensLasting : List Line → Type 0
OpensLasting journal = (x : Line) (f : FixedParts) → In x journal → In f (opened x) → 2 ≤ f.duration

-- The journal is one that the node's rules make over a legal history, and both are those of a race whose rounds have
-- these ends. The channels that its accepted commands open have durations of two or more.
pub record PlaysRace (t : Tables) (r : Rules) (s : Signing) (h : List Entry) (journal : List Told) (ends : List ℕ)
    : Type 0 where
  pub legal : Legal r h
  pub plays : Plays t r s h journal
  pub raced : IsRaced h (lines_of s.key journal) ends
  pub lasting : OpensLasting (lines_of s.key journal)
