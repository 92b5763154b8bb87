-- The set in which the names of a list are looked up.
use Rattle.std.specs.Prelude.{◌≡◌, ℕ, List, String}
use Rattle.std.specs.BTreeSet.{BTreeSet, contains_text}
use Rattle.std.specs.List.{list_any}
use Rattle.std.specs.Str.{bytes_eq}

-- a name is in the set exactly where it is in the list
abbrev pub IsIndex : {Y : Type 0} → List (List ℕ) → BTreeSet (String Y) → Type 0
IsIndex names index = (name : List ℕ) → contains_text index name ≡ list_any (λ n. bytes_eq n name) names
