-- Which call a note is of.
use Rattle.std.specs.Prelude.{ℕ, ◌==◌, List, slice_index, if◌then◌else◌}
use Rattle.lasting_lines.specs.Files.{Op, Appended, Synced, Written, Aside}

-- by its first number: 0 for an append, 1 for a sync, 2 for a text, and else a message aside
abbrev pub event_of : List ℕ → List ℕ → Op
event_of numbers bytes =
    if slice_index numbers 0 == 0 then Appended bytes
    else if slice_index numbers 0 == 1 then Synced
    else if slice_index numbers 0 == 2 then Written bytes
    else Aside bytes
