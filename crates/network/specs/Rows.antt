-- The rows of channels as a map by name.
use Rattle.std.specs.Prelude.{ℕ, List, Option, None, unwrap_or, map}
use Rattle.std.specs.Map.{lookup}
use Rattle.std.specs.Str.{bytes_eq}
use Rattle.network.specs.Watching.{row_with}
use Rattle.network.specs.declared.rows.Watched.{Watched}

-- what is recorded of a channel: a turn and a deadline
abbrev pub Told : Type 0
Told = ℕ × Option ℕ

-- what the map says of a channel; turn 0 and no deadline of one that it doesn't have
abbrev pub told_in : List (List ℕ × Told) → List ℕ → Told
told_in entries channel = unwrap_or (lookup (bytes_eq channel) entries) (0, None)

-- the rows that a map stands for, in its order
abbrev pub rows_of : List (List ℕ × Told) → List Watched
rows_of entries = map (λ e. row_with e.0 e.1) entries
