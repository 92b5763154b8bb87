-- The chain that a participant holds of a channel at a place: after so many entries, and the journal up to a line.
use Rattle.std.specs.Prelude.{ℕ, suc, ◌==◌, List, [], ◌∷◌, length, Option, Some, None, if◌then◌else◌}
use Rattle.channel_values.specs.Parts.{FixedParts}
use Rattle.channel_values.specs.Rules.{Rules}
use Rattle.call_history.specs.Marked.{Marked, nothing, extended, adopted}
use Rattle.call_history.specs.Shown.{shown}
use Rattle.call_history.specs.declared.entry.Entry.{Entry}
use Rattle.channel_safety.specs.Journals.{Line, opens, noted_in}

-- None until the channel is in the plan. Then the states of the first round as they come, each with its mover's mark,
-- and the held chain once that is supported.
abbrev pub note : Rules → FixedParts → Line → Option Marked → Option Marked
note r f x None = if opens r (r.named f) x then Some nothing else None
note r f x (Some w) = Some (extended r f (noted_in (r.named f) x.deed) w)

abbrev pub show : Rules → FixedParts → Marked → Option Marked → Option Marked
show r f chain None = None
show r f chain (Some w) = Some (adopted r f chain w)

-- the lines that had seen k entries, in the journal's order
abbrev pub slot : Rules → FixedParts → ℕ → List Line → Option Marked → Option Marked
slot r f k [] st = st
slot r f k (x ∷ front) st = if x.seen == k then note r f x (slot r f k front st) else slot r f k front st

-- what is held of the channel after these entries and the lines that had seen at most these
abbrev pub held : Rules → FixedParts → List Entry → List Line → Option Marked
held r f [] journal = slot r f 0 journal None
held r f (e ∷ past) journal =
    slot r f (suc (length past)) journal (show r f (shown r (r.named f) past e) (held r f past journal))
