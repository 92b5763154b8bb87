-- When no strings collide that the laws of safety speak of, and a test of it.
use Rattle.std.specs.Prelude.{ℕ, Bool, true, not, ◌&&◌, ◌||◌, List, [], ◌∷◌, ◌++◌, flat_map, reverse, ◌↔◌, IsTrue}
use Rattle.std.specs.List.{list_all}
use Rattle.std.specs.Str.{bytes_eq}
use Rattle.sha2.specs.Sha256.{sha256}
use Rattle.channel_values.specs.Parts.{FixedParts}
use Rattle.channel_values.specs.Collisions.{NoneCollide}
use Rattle.channel_values.specs.Digests.{person_string}
use Rattle.call_history.specs.declared.entry.Entry.{Entry}
use Rattle.channel_safety.specs.Journals.{In, Line, opened, lines}
use Rattle.channel_safety.specs.Hashed.{of_fixed, hashed}
use Rattle.premises.specs.declared.journal.Journal.{Journal}
use Rattle.premises.specs.Collision.{distinct_strings, Distinct, DistinctWith}

-- two strings aren't different ones with one digest
abbrev pub are_apart : (List ℕ → List ℕ) → List ℕ → List ℕ → Bool
are_apart digest a b = not (bytes_eq (digest a) (digest b)) || bytes_eq a b

-- no two of the strings are
abbrev pub none_collide : (List ℕ → List ℕ) → List (List ℕ) → Bool
none_collide digest [] = true
none_collide digest (s ∷ rest) = list_all (are_apart digest s) rest && none_collide digest rest

-- the test says
abbrev pub CollisionIsTold : Type 0
CollisionIsTold = (strings : List (List ℕ)) → IsTrue (none_collide sha256 strings) ↔ NoneCollide strings

-- the strings of the fixed parts that the lines of a journal open
abbrev pub strings_opened : List Line → List (List ℕ)
strings_opened journal = flat_map (λ x. flat_map of_fixed (opened x)) journal

-- For each of the journals: no strings collide, those of the channels that it opens among them. Then none do that the
-- laws of safety speak of. Nor do those of its key and of more fixed parts, among which these channels are. Distinct
-- is enough where it opens no new string.
pub record DistinctSuffices : Type 0 where
  pub with_commands :
      (h : List Entry) (journals : List Journal) (j : Journal) (adds : ℕ → List FixedParts) → In j journals
      → DistinctWith h journals (strings_opened (lines adds (reverse j.events)))
      → NoneCollide (hashed (reverse h) (lines adds (reverse j.events)))
  pub with_named :
      (h : List Entry) (journals : List Journal) (j : Journal) (adds : ℕ → List FixedParts) (more : List FixedParts) → In j journals
      → ((s : List ℕ) → In s (strings_opened (lines adds (reverse j.events))) → In s (flat_map of_fixed more))
      → DistinctWith h journals (flat_map of_fixed more)
      → NoneCollide (hashed (reverse h) (lines adds (reverse j.events)) ++ (person_string j.key ∷ flat_map of_fixed more))
  pub with_known_commands :
      (h : List Entry) (journals : List Journal) (j : Journal) (adds : ℕ → List FixedParts) → In j journals
      → ((s : List ℕ) → In s (strings_opened (lines adds (reverse j.events))) → In s (distinct_strings h journals))
      → Distinct h journals → NoneCollide (hashed (reverse h) (lines adds (reverse j.events)))
