-- Journals of values, in the order of time, and what the commands of their events add.
use Rattle.std.specs.Prelude.{ℕ, List, [], reverse, slice_index_or}
use Rattle.std.specs.List.{AllByRecursion}
use Rattle.channel_values.specs.Parts.{FixedParts, IsFixed}
use Rattle.call_history.specs.declared.event.Event.{Event}
use Rattle.channel_safety.specs.Journals.{Line, lines}

-- the lines of a journal in the order of time, the newest first, where `adds` says of each event, by the number of
-- events before it, what its command adds
abbrev pub newest_lines : List Event → (ℕ → List FixedParts) → List Line
newest_lines journal adds = lines adds (reverse journal)

-- it adds fixed parts
abbrev pub AddsFixed : (ℕ → List FixedParts) → Type 0
AddsFixed adds = (place : ℕ) → AllByRecursion IsFixed (adds place)

-- what the command of the event after so many adds: the fixed parts at that place, and beyond the end none
abbrev pub adds_of : List (List FixedParts) → ℕ → List FixedParts
adds_of adds place = slice_index_or adds place []
