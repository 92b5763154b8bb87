-- First places in lists, and which lists have a number.
use Rattle.std.proofs.Common.{◌≡◌, ◌≤◌, ◌<◌, ◌+◌, ◌==◌, nat_lt, ℕ, zero, suc, List, [], ◌∷◌, ◌++◌, length, get_or, Bool, true, false, not, ◌||◌, cond, Some, None, position, refl, sym, ◌∙◌, ap, subst, arith, true≢false, eq-eqb, Contains}
use Rattle.std.specs.List.{position_or_len, list_any, slice_index}
use Rattle.std.specs.List.Sorted.{IsStrictlyIncreasing}
use Rattle.std.proofs.lemmas.Bool.{lt-ltb, ltb-true}
use Rattle.watchtower.proofs.Rising.{RisesFrom, among}

-- ---- rising places

pub rises_from : (n : ℕ) (ps : List ℕ) → ((d : ℕ) → 0 < length ps → n ≤ get_or ps 0 d) → IsStrictlyIncreasing ps → RisesFrom n ps
rises_from n [] least inc = tt
rises_from n (p ∷ ps) least inc =
    let next : (d : ℕ) → 0 < length ps → suc p ≤ get_or ps 0 d = λ d lt. first ps d lt (inc 0) in
    (least 0 (omega arith), rises_from (suc p) ps next (λ k lt. let e : suc k + 1 ≡ suc (k + 1) = omega arith in subst (λ m. slice_index (p ∷ ps) (suc k) < slice_index (p ∷ ps) m) e (inc (suc k) (omega (arith, lt)))))
  where
    first : (qs : List ℕ) (d : ℕ) → 0 < length qs → (0 + 1 < length (p ∷ qs) → slice_index (p ∷ qs) 0 < slice_index (p ∷ qs) (0 + 1)) → suc p ≤ get_or qs 0 d
    first [] d lt step = absurd (omega (arith, lt))
    first (q ∷ qs) d lt step = omega (arith, step (omega arith))

pub rises : (ps : List ℕ) → IsStrictlyIncreasing ps → RisesFrom 0 ps
rises ps inc = rises_from 0 ps (λ d lt. omega arith) inc

pub is_among : (n : ℕ) (ps : List ℕ) → Contains ps n → among n ps ≡ true
is_among n ps c = go ps c.0 c.1 c.2
  where
    or-true : (b : Bool) → (b || true) ≡ true
    or-true true = refl
    or-true false = refl

    go : (ps : List ℕ) (k : ℕ) → k < length ps → get_or ps k n ≡ n → among n ps ≡ true
    go [] k lt is = absurd (omega (arith, lt))
    go (p ∷ ps) zero lt is = ap (λ b. b || among n ps) (eq-eqb p n is)
    go (p ∷ ps) (suc k) lt is = ap (λ b. (p == n) || b) (go ps k (omega (arith, lt)) is) ∙ or-true (p == n)

-- ---- first places

module _ {X : Type 0} (p : X → Bool) where
  pub found_at : (xs : List X) (i : ℕ) → position p xs ≡ Some i → (position_or_len p xs ≡ i) × (i < length xs)
  found_at xs i at = go (nat_lt (position_or_len p xs) (length xs)) refl (position_or_len p xs) refl at
    where
      go : (b : Bool) → nat_lt (position_or_len p xs) (length xs) ≡ b → (n : ℕ) → position_or_len p xs ≡ n
          → cond b (Some n) None ≡ Some i → (position_or_len p xs ≡ i) × (i < length xs)
      go true lt n is at = let same : n ≡ i = cc in (is ∙ same, subst (λ m. m < length xs) (is ∙ same) (ltb-true (position_or_len p xs) (length xs) lt))
      go false lt n is at = absurd cc

  pub at_place : (xs : List X) (i : ℕ) → position_or_len p xs ≡ i → i < length xs → position p xs ≡ Some i
  at_place xs i is lt =
      ap (λ b. cond b (Some (position_or_len p xs)) None) (lt-ltb (position_or_len p xs) (length xs) (subst (λ m. m < length xs) (sym is) lt)) ∙ ap Some is

  same_place : (xs ys : List X) → position_or_len p xs < length xs → position_or_len p (xs ++ ys) ≡ position_or_len p xs
  same_place [] ys lt = absurd (omega (arith, lt))
  same_place (x ∷ xs) ys lt = go (p x) refl (λ l. same_place xs ys l) lt
    where
      go : (b : Bool) → p x ≡ b → (position_or_len p xs < length xs → position_or_len p (xs ++ ys) ≡ position_or_len p xs)
          → cond (not b) (1 + position_or_len p xs) 0 < suc (length xs)
          → cond (not (p x)) (1 + position_or_len p (xs ++ ys)) 0 ≡ cond (not (p x)) (1 + position_or_len p xs) 0
      go true q rest lt = ap (λ b. cond (not b) (1 + position_or_len p (xs ++ ys)) 0) q ∙ sym (ap (λ b. cond (not b) (1 + position_or_len p xs) 0) q)
      go false q rest lt = ap (λ n. cond (not (p x)) (1 + n) 0) (rest (omega (arith, lt)))

  pub stays_found : (xs ys : List X) (i : ℕ) → position p xs ≡ Some i → position p (xs ++ ys) ≡ Some i
  stays_found xs ys i at =
      let f = found_at xs i at in
      at_place (xs ++ ys) i (same_place xs ys (subst (λ m. m < length xs) (sym f.0) f.1) ∙ f.0) (longer xs ys i f.1)
    where
      longer : (xs ys : List X) (i : ℕ) → i < length xs → i < length (xs ++ ys)
      longer [] ys i lt = absurd (omega (arith, lt))
      longer (x ∷ xs) ys zero lt = omega arith
      longer (x ∷ xs) ys (suc i) lt = let rest = longer xs ys i (omega (arith, lt)) in omega (arith, rest)

  pub found_last : (xs : List X) (x : X) → list_any p xs ≡ false → p x ≡ true → position p (xs ++ x ∷ []) ≡ Some (length xs)
  found_last xs x none here = at_place (xs ++ x ∷ []) (length xs) (count xs none) (shorter xs)
    where
      shorter : (xs : List X) → length xs < length (xs ++ x ∷ [])
      shorter [] = omega arith
      shorter (y ∷ ys) = let rest = shorter ys in omega (arith, rest)

      count : (xs : List X) → list_any p xs ≡ false → position_or_len p (xs ++ x ∷ []) ≡ length xs
      count [] none = ap (λ b. cond (not b) 1 0) here
      count (y ∷ ys) none = go (p y) refl (λ q. count ys q) none
        where
          go : (b : Bool) → p y ≡ b → (list_any p ys ≡ false → position_or_len p (ys ++ x ∷ []) ≡ length ys) → (b || list_any p ys) ≡ false
              → cond (not (p y)) (1 + position_or_len p (ys ++ x ∷ [])) 0 ≡ suc (length ys)
          go true q rest none = absurd (true≢false none)
          go false q rest none = ap (λ b. cond (not b) (1 + position_or_len p (ys ++ x ∷ [])) 0) q ∙ (let r = rest none in omega (arith, r))

  pub not_found : (xs : List X) → position p xs ≡ None → list_any p xs ≡ false
  not_found xs none = go (list_any p xs) refl
    where
      below : (xs : List X) → list_any p xs ≡ true → position_or_len p xs < length xs
      below [] any = absurd (true≢false (sym any))
      below (x ∷ xs) any = go (p x) refl (λ q. below xs q) any
        where
          go : (b : Bool) → p x ≡ b → (list_any p xs ≡ true → position_or_len p xs < length xs) → (b || list_any p xs) ≡ true
              → cond (not (p x)) (1 + position_or_len p xs) 0 < suc (length xs)
          go true q rest any = subst (λ b. cond (not b) (1 + position_or_len p xs) 0 < suc (length xs)) (sym q) (omega arith)
          go false q rest any = subst (λ b. cond (not b) (1 + position_or_len p xs) 0 < suc (length xs)) (sym q) (let r = rest any in omega (arith, r))

      go : (b : Bool) → list_any p xs ≡ b → b ≡ false
      go false q = refl
      go true q = absurd (clash (sym none ∙ at_place xs (position_or_len p xs) refl (below xs q)))
        where
          clash : None ≡ Some (position_or_len p xs) → ⊥
          clash e = cc
