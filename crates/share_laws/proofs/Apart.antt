-- Names that are apart: what is in one part of a list is in no other.
use Rattle.std.proofs.Common.{◌≡◌, ℕ, Bool, true, false, ◌||◌, List, [], ◌∷◌, ◌++◌, refl, sym, ◌∙◌, ap, subst}
use Rattle.std.specs.Str.{bytes_eq}
use Rattle.std.proofs.lemmas.Bool.{false≢true}
use Rattle.channel_values.specs.Outcomes.{AreApart}
use Rattle.call_history.specs.Flows.{is_among}
use Rattle.call_history.proofs.Names.{same_bytes}

pub among-append : (y : List ℕ) (xs ys : List (List ℕ)) → is_among y (xs ++ ys) ≡ (is_among y xs || is_among y ys)
among-append y [] ys = refl
among-append y (x ∷ xs) ys = by_test (bytes_eq y x) (among-append y xs ys)
  where
    by_test : (t : Bool) → is_among y (xs ++ ys) ≡ (is_among y xs || is_among y ys) → (t || is_among y (xs ++ ys)) ≡ ((t || is_among y xs) || is_among y ys)
    by_test true h = refl
    by_test false h = h

-- what is in the first is in both joined
pub among-first : (y : List ℕ) (xs ys : List (List ℕ)) → is_among y xs ≡ true → is_among y (xs ++ ys) ≡ true
among-first y xs ys h = among-append y xs ys ∙ ap (λ (t : Bool). t || is_among y ys) h

pub or-none : (s t : Bool) → (s || t) ≡ false → (s ≡ false) × (t ≡ false)
or-none true t h = absurd (false≢true (sym h))
or-none false t h = (refl, h)

-- what is in neither of two
pub among-neither : (y : List ℕ) (xs ys : List (List ℕ)) → is_among y (xs ++ ys) ≡ false → (is_among y xs ≡ false) × (is_among y ys ≡ false)
among-neither y xs ys h = or-none (is_among y xs) (is_among y ys) (sym (among-append y xs ys) ∙ h)

-- what is apart in a list joined of two is in one of them alone
pub apart-once : (xs ys : List (List ℕ)) → AreApart bytes_eq (xs ++ ys) → (y : List ℕ) → is_among y xs ≡ true → is_among y ys ≡ false
apart-once [] ys h y i = absurd (false≢true i)
apart-once (x ∷ xs) ys h y i = by_test (bytes_eq y x) (same_bytes y x) i (apart-once xs ys h.1 y)
  where
    by_test : (t : Bool) → (t ≡ true → y ≡ x) → (t || is_among y xs) ≡ true → (is_among y xs ≡ true → is_among y ys ≡ false) → is_among y ys ≡ false
    by_test true is i rest = subst (λ (z : List ℕ). is_among z ys ≡ false) (sym (is refl)) (among-neither x xs ys h.0).1
    by_test false is i rest = rest i

pub apart-rest : (xs ys : List (List ℕ)) → AreApart bytes_eq (xs ++ ys) → AreApart bytes_eq ys
apart-rest [] ys h = h
apart-rest (x ∷ xs) ys h = apart-rest xs ys h.1

pub apart-front : (xs ys : List (List ℕ)) → AreApart bytes_eq (xs ++ ys) → AreApart bytes_eq xs
apart-front [] ys h = tt
apart-front (x ∷ xs) ys h = ((among-neither x xs ys h.0).0, apart-front xs ys h.1)
