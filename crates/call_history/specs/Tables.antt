-- Tables: lists of rows, of which the first that passes a test is the one that is meant.
use Rattle.std.specs.Prelude.{◌≡◌, ℕ, Bool, List, [], ◌∷◌, position, if◌then◌else◌}
use Rattle.std.specs.Map.{lookup}
use Rattle.std.specs.Str.{bytes_eq}

-- the row that is meant, or the value that stands for none
abbrev pub found : {X : Type 0} → (X → Bool) → X → List X → X
found is none [] = none
found is none (x ∷ xs) = if is x then x else found is none xs

-- with that row changed, or one added where there was none
abbrev pub changed : {X : Type 0} → (X → Bool) → (X → X) → X → List X → List X
changed is change none [] = change none ∷ []
changed is change none (x ∷ xs) = if is x then change x ∷ xs else x ∷ changed is change none xs

-- whether a row has this name
abbrev pub is_named : {X : Type 0} → (X → List ℕ) → List ℕ → X → Bool
is_named name_of name row = bytes_eq (name_of row) name

-- a table of places says of each name which place the first row of that name has, if there is one
abbrev pub ArePlaced : {X : Type 0} → (X → List ℕ) → List (List ℕ × ℕ) → List X → Type 0
ArePlaced name_of places rows = (name : List ℕ) → lookup (bytes_eq name) places ≡ position (is_named name_of name) rows
