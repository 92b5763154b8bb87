-- Lines that may stand in a file.
use Rattle.std.specs.Prelude.{ℕ, ◌==◌, Bool, true, not, ◌&&◌, ◌||◌, List, [], ◌∷◌}

-- no byte is a line feed, or the byte that separates the lines of a batch
abbrev pub is_part : List ℕ → Bool
is_part [] = true
is_part (b ∷ rest) = not (b == 10 || b == 30) && is_part rest
