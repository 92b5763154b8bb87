-- What a script keeps that is read, and how its parts keep it.
use Rattle.std.proofs.Common.{◌≡◌, ◌≤◌, ℕ, List, [], ◌∷◌, ◌++◌, length, ap, refl, true, false}
use Rattle.std.specs.Prelude.{Bool, All}
use Rattle.std.specs.List.{fold}
use Rattle.std.specs.Str.{bytes_eq}
use Rattle.std.proofs.lemmas.Slice.Eq.{bytes_eq-Decides}
use Rattle.channel_values.specs.Digests.{name_of_person}
use Rattle.script_steps.specs.Bounds.{Fits, persons_of, rounds_of}
use Rattle.script_steps.specs.Conditions.{after}
use Rattle.script_steps.specs.declared.context.Context.{Context}
use Rattle.script_steps.specs.declared.step.Step.{Step}
use Rattle.script_reader.specs.Script.{start, AreChecked}

-- what a script keeps that is read
pub record IsKept (ss : List Step) : Type 0 where
  pub kept : AreChecked (start false) ss
  pub fit : All Fits ss
  pub few : length ss ≤ 4096
  pub people : persons_of ss ≤ 16
  pub rounds : rounds_of ss ≤ 4096

-- one part after another
pub checked_append : (c : Context) (xs ys : List Step) → AreChecked c xs → AreChecked (fold after c xs) ys → AreChecked c (xs ++ ys)
checked_append c [] ys h k = k
checked_append c (x ∷ xs) ys h k = (h.0, checked_append (after c x) xs ys h.1 k)

-- people of two digests have two keys
pub two_keys : (a b : List ℕ) → bytes_eq (name_of_person a) (name_of_person b) ≡ false → bytes_eq a b ≡ false
two_keys a b apart = by (bytes_eq a b) refl
  where
    by : (t : Bool) → bytes_eq a b ≡ t → bytes_eq a b ≡ false
    by false e = e
    by true e =
        let same : bytes_eq (name_of_person a) (name_of_person b) ≡ true =
        (bytes_eq-Decides (name_of_person a) (name_of_person b)).1 (ap name_of_person ((bytes_eq-Decides a b).0 e)) in
        absurd (cc)
