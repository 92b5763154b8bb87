-- The strings that are hashed for what a history and all journals name, and that no two of them collide.
use Rattle.std.specs.Prelude.{ℕ, List, ◌∷◌, ◌++◌, flat_map}
use Rattle.channel_values.specs.Collisions.{NoneCollide}
use Rattle.channel_values.specs.Digests.{person_string}
use Rattle.call_history.specs.declared.entry.Entry.{Entry}
use Rattle.call_history.specs.declared.event.Event.{Event}
use Rattle.channel_safety.specs.Hashed.{of_entry, of_deed}
use Rattle.premises.specs.declared.journal.Journal.{Journal}

-- of an event: of the message that it took, the state that it signed, the calls that it gave
abbrev pub of_event : Event → List (List ℕ)
of_event x = of_deed x.deed

-- of a journal: its key, and what its events name
abbrev pub of_journal : Journal → List (List ℕ)
of_journal j = person_string j.key ∷ flat_map of_event j.events

-- of a history and the journals of all, in the order of time
abbrev pub distinct_strings : List Entry → List Journal → List (List ℕ)
distinct_strings h journals = flat_map of_entry h ++ flat_map of_journal journals

abbrev pub Distinct : List Entry → List Journal → Type 0
Distinct h journals = NoneCollide (distinct_strings h journals)

-- these strings too are distinct from the others and each other
abbrev pub DistinctWith : List Entry → List Journal → List (List ℕ) → Type 0
DistinctWith h journals more = NoneCollide (distinct_strings h journals ++ more)
