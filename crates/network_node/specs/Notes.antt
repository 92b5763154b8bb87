-- What a node notes of a command.
use Rattle.std.specs.Prelude.{ℕ, Bool, true, false, List, Option, Some, None}

-- the shares of now, where it is one to exit and none were noted
abbrev pub note_if : Bool → Option (List (ℕ × ℕ)) → List (ℕ × ℕ) → Option (List (ℕ × ℕ))
note_if true None now = Some now
note_if true (Some noted) now = None
note_if false noted now = None
