-- The first line of a state file.
use Rattle.std.specs.Prelude.{◌==◌, ℕ, Bool, false, ◌&&◌, ◌||◌, List, [], ◌∷◌, ◌++◌, decimal, if◌then◌else◌}
use Rattle.std.specs.List.{starts_with}
use Rattle.nitro_library.specs.declared.opened.OpenedFile.{OpenedFile}

-- a title, and the number of the file's inode
abbrev pub first_line : List ℕ → ℕ → List ℕ
first_line title inode = title ++ 32 ∷ decimal inode ++ 10 ∷ []

-- whether a line ends
abbrev pub has_line : List ℕ → Bool
has_line [] = false
has_line (b ∷ rest) = b == 10 || has_line rest

abbrev pub begins_with : List ℕ → List ℕ → Bool
begins_with bytes front = starts_with (λ a b. a == b) bytes front

-- Whether a file is the caller's. Where no line ends in it, it has a part of its first line. Else that line has the title, and
-- the number of its inode too, if the file may not have another one.
abbrev pub is_ours : List ℕ → OpenedFile → List ℕ → Bool
is_ours title file bytes =
    if has_line bytes
    then begins_with bytes (title ++ 32 ∷ []) && (file.moved || begins_with bytes (first_line title file.inode))
    else begins_with (first_line title file.inode) bytes

-- what the file has to begin with where no line ends in it, else nothing
abbrev pub head_in : List ℕ → OpenedFile → List ℕ → List ℕ
head_in title file bytes = if has_line bytes then [] else first_line title file.inode
