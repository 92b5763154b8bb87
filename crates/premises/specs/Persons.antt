-- The premises on the journal of a person.
use Rattle.std.specs.Prelude.{◌≡◌, ℕ, List, Some, reverse}
use Rattle.std.specs.List.{find}
use Rattle.channel_values.specs.Parts.{FixedParts}
use Rattle.call_history.specs.History.{newest_first}
use Rattle.call_history.specs.declared.entry.Entry.{Entry}
use Rattle.channel_safety.specs.Journals.{lines}
use Rattle.channel_safety.specs.Premises.{Unforged, InTime}
use Rattle.support_rules.specs.Real.{real}
use Rattle.premises.specs.Whose.{is_of}
use Rattle.premises.specs.declared.journal.Journal.{Journal}

-- nothing is forged of the participant with this journal
abbrev pub IsUnforged : List Entry → (ℕ → List FixedParts) → Journal → Type 0
IsUnforged h adds j = Unforged real j.key (newest_first h) (lines adds (reverse j.events))

-- its watchers are in time
abbrev pub IsInTime : List Entry → (ℕ → List FixedParts) → Journal → Type 0
IsInTime h adds j = InTime real (newest_first h) (lines adds (reverse j.events))

-- the person has a journal, and this holds of the first
abbrev pub OfPerson : List Journal → List ℕ → (Journal → Type 0) → Type 0
OfPerson journals person P = (j : Journal) × (find (is_of person) journals ≡ Some j) × P j
