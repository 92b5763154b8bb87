-- What words ask for: `run`, `race`, or `load` with a seed and a count.
use Rattle.std.specs.Prelude.{◌==◌, ◌&&◌, ℕ, ◌^◌, Bool, true, false, List, [], ◌∷◌, length, Option, Some, None, if◌then◌else◌, nat_eq, nat_le, nat_lt, codes, flat_map}
use Rattle.std.specs.List.{starts_with, list_any, before_first, after_first}
use Rattle.std.specs.Str.{bytes_eq, all_ascii_digits}
use Rattle.std.specs.Str.Parse.{digits_value}
use Rattle.command_words.specs.declared.asking.Asked.{Asked}
use Rattle.command_words.specs.declared.asking.Asked.TheVariants.{Run, Race, Load}

-- the number of 64 bits that 1 to 20 decimal digits write
abbrev pub number_of : List ℕ → Option ℕ
number_of text = if nat_lt 0 (length text) && (nat_le (length text) 20
    && (all_ascii_digits text && nat_lt (digits_value 10 text) (2 ^ 64)))
    then Some (digits_value 10 text) else None

-- a seed of 64 bits, and a count from 1 to 1,000
abbrev pub load_of : Option ℕ → Option ℕ → Option Asked
load_of (Some seed) (Some count) = if nat_le 1 count && nat_le count 1000 then Some (Load seed count) else None
load_of _ _ = None

abbrev pub is_equals : ℕ → Bool
is_equals byte = byte == 61

-- `--name=value`, cut at the first `=`, stands for `--name` and `value`
abbrev pub parts_of : List ℕ → List (List ℕ)
parts_of word = if starts_with nat_eq word (codes "--") && list_any is_equals word
    then before_first is_equals word ∷ after_first is_equals word ∷ [] else word ∷ []

-- after the options stands nothing, or `--`
abbrev pub is_end : List (List ℕ) → Bool
is_end [] = true
is_end (word ∷ []) = bytes_eq word (codes "--")
is_end _ = false

-- the two options in either order, each with its value
abbrev pub load_in : List (List ℕ) → Option Asked
load_in (first ∷ v ∷ second ∷ w ∷ rest) =
    if is_end rest && (bytes_eq first (codes "--seed") && bytes_eq second (codes "--count"))
    then load_of (number_of v) (number_of w)
    else (if is_end rest && (bytes_eq first (codes "--count") && bytes_eq second (codes "--seed"))
    then load_of (number_of w) (number_of v)
    else None)
load_in _ = None

-- what a word that stands alone asks for, if anything
abbrev pub play_of : List ℕ → Option Asked
play_of word = if bytes_eq word (codes "run") then Some Run else (if bytes_eq word (codes "race") then Some Race else None)

-- what the words after the program's name ask for, if anything
abbrev pub asked : List (List ℕ) → Option Asked
asked [] = None
asked (word ∷ []) = play_of word
asked (word ∷ rest) = if bytes_eq word (codes "load") then load_in (flat_map parts_of rest) else None
