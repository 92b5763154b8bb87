-- How many payments the words may ask for, and what can be played of what they ask for.
use Rattle.std.proofs.Common.{◌≡◌, ℕ, ◌≤◌, List, [], ◌∷◌, Bool, true, false, cond, Option, Some, None, ◌⊎◌, inl, inr, refl, ap, ◌∙◌, subst, codes}
use Rattle.std.specs.Prelude.{◌&&◌, nat_le, flat_map}
use Rattle.std.specs.Str.{bytes_eq}
use Rattle.std.proofs.lemmas.Bool.{leb-true}
use Rattle.script_run.specs.Load.{are_two}
use Rattle.script_run.specs.Run.{playable, wanted}
use Rattle.command_words.specs.Words.{number_of, load_of, parts_of, is_end, load_in, asked}
use Rattle.command_words.specs.declared.asking.Asked.{Asked}
use Rattle.command_words.specs.declared.asking.Asked.TheVariants.{Run, Race, Load}

abbrev IsWithin : ℕ → Type 0
IsWithin count = (1 ≤ count) × (count ≤ 1000)

-- one of two is asked for, or nothing
either : (a : Bool) (x y : Option Asked) (l : Asked) → cond a x y ≡ Some l → (x ≡ Some l) ⊎ (y ≡ Some l)
either true x y l e = inl e
either false x y l e = inr e

not_none : {A : Type 0} (l : Asked) → None ≡ Some l → A
not_none l e = absurd (cc)

load_within : (s c : Option ℕ) (seed count : ℕ) → load_of s c ≡ Some (Load seed count) → IsWithin count
load_within None c seed count e = not_none (Load seed count) e
load_within (Some s) None seed count e = not_none (Load seed count) e
load_within (Some s) (Some c) seed count e = by (nat_le 1 c) refl (nat_le c 1000) refl e
  where
    by : (a : Bool) → nat_le 1 c ≡ a → (b : Bool) → nat_le c 1000 ≡ b → cond (a && b) (Some (Load s c)) None ≡ Some (Load seed count) → IsWithin count
    by true p true q e =
        let same : c ≡ count = cc in
        (subst (λ n. 1 ≤ n) same (leb-true 1 c p), subst (λ n. n ≤ 1000) same (leb-true c 1000 q))
    by true p false q e = not_none (Load seed count) e
    by false p b q e = not_none (Load seed count) e

in_options : (words : List (List ℕ)) (seed count : ℕ) → load_in words ≡ Some (Load seed count) → IsWithin count
in_options [] seed count e = not_none (Load seed count) e
in_options (first ∷ []) seed count e = not_none (Load seed count) e
in_options (first ∷ v ∷ []) seed count e = not_none (Load seed count) e
in_options (first ∷ v ∷ second ∷ []) seed count e = not_none (Load seed count) e
in_options (first ∷ v ∷ second ∷ w ∷ rest) seed count e =
    by (either (is_end rest && (bytes_eq first (codes "--seed") && bytes_eq second (codes "--count"))) (load_of (number_of v) (number_of w)) turned (Load seed count) e)
  where
    turned : Option Asked
    turned = cond (is_end rest && (bytes_eq first (codes "--count") && bytes_eq second (codes "--seed"))) (load_of (number_of w) (number_of v)) None

    again : (load_of (number_of w) (number_of v) ≡ Some (Load seed count)) ⊎ (None ≡ Some (Load seed count)) → IsWithin count
    again (inl h) = load_within (number_of w) (number_of v) seed count h
    again (inr h) = not_none (Load seed count) h

    by : (load_of (number_of v) (number_of w) ≡ Some (Load seed count)) ⊎ (turned ≡ Some (Load seed count)) → IsWithin count
    by (inl h) = load_within (number_of v) (number_of w) seed count h
    by (inr h) = again (either (is_end rest && (bytes_eq first (codes "--count") && bytes_eq second (codes "--seed"))) (load_of (number_of w) (number_of v)) None (Load seed count) h)

no_run : (seed count : ℕ) → Some Run ≡ Some (Load seed count) → IsWithin count
no_run seed count e = absurd (cc)

no_race : (seed count : ℕ) → Some Race ≡ Some (Load seed count) → IsWithin count
no_race seed count e = absurd (cc)

-- what words ask for has 1 to 1,000 payments
asked_within : (words : List (List ℕ)) (seed count : ℕ) → asked words ≡ Some (Load seed count) → IsWithin count
asked_within [] seed count e = not_none (Load seed count) e
asked_within (word ∷ []) seed count e = by (either (bytes_eq word (codes "run")) (Some Run) race (Load seed count) e)
  where
    race : Option Asked
    race = cond (bytes_eq word (codes "race")) (Some Race) None

    again : (Some Race ≡ Some (Load seed count)) ⊎ (None ≡ Some (Load seed count)) → IsWithin count
    again (inl h) = no_race seed count h
    again (inr h) = not_none (Load seed count) h

    by : (Some Run ≡ Some (Load seed count)) ⊎ (race ≡ Some (Load seed count)) → IsWithin count
    by (inl h) = no_run seed count h
    by (inr h) = again (either (bytes_eq word (codes "race")) (Some Race) None (Load seed count) h)
asked_within (word ∷ next ∷ rest) seed count e =
    by (either (bytes_eq word (codes "load")) (load_in (flat_map parts_of (next ∷ rest))) None (Load seed count) e)
  where
    by : (load_in (flat_map parts_of (next ∷ rest)) ≡ Some (Load seed count)) ⊎ (None ≡ Some (Load seed count)) → IsWithin count
    by (inl h) = in_options (flat_map parts_of (next ∷ rest)) seed count h
    by (inr h) = not_none (Load seed count) h

pub some_payments : (words : List (List ℕ)) (seed count : ℕ) → asked words ≡ Some (Load seed count) → 1 ≤ count
some_payments words seed count e = (asked_within words seed count e).0

pub few_payments : (words : List (List ℕ)) (seed count : ℕ) → asked words ≡ Some (Load seed count) → count ≤ 1000
few_payments words seed count e = (asked_within words seed count e).1

-- ---- what can be played of what is asked for

pub wanted_none : (words : List (List ℕ)) → asked words ≡ None → wanted words ≡ None
wanted_none words e = ap playable e

pub wanted_run : (words : List (List ℕ)) → asked words ≡ Some Run → wanted words ≡ Some Run
wanted_run words e = ap playable e

pub wanted_race : (words : List (List ℕ)) → asked words ≡ Some Race → wanted words ≡ Some Race
wanted_race words e = ap playable e

load_if : (seed count : ℕ) (t : Bool) → are_two seed ≡ t → playable (Some (Load seed count)) ≡ cond t (Some (Load seed count)) None
load_if seed count t e = ap (λ (b : Bool). cond b (Some (Load seed count)) None) e

pub wanted_load : (words : List (List ℕ)) (seed count : ℕ) → asked words ≡ Some (Load seed count) → are_two seed ≡ true → wanted words ≡ Some (Load seed count)
wanted_load words seed count e two = ap playable e ∙ load_if seed count true two

pub wanted_no_load : (words : List (List ℕ)) (seed count : ℕ) → asked words ≡ Some (Load seed count) → are_two seed ≡ false → wanted words ≡ None
wanted_no_load words seed count e one = ap playable e ∙ load_if seed count false one
