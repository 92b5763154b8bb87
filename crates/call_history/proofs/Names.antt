-- Sums over names, each once.
use Rattle.std.proofs.Common.{◌≡◌, ℕ, ◌+◌, ◌≤◌, List, [], ◌∷◌, ◌++◌, Bool, true, false, cond, refl, ◌∙◌, ap, arith}
use Rattle.std.proofs.lemmas.List.Sums.{sum_by-cons, sum_by-le-sum_by}
use Rattle.std.proofs.lemmas.Slice.Eq.{bytes_eq-Decides}
use Rattle.std.specs.Prelude.{◌||◌, sum_by}
use Rattle.std.specs.Str.{bytes_eq}
use Rattle.call_history.specs.Flows.{is_among, distinct}

pub sum_by_plus : {X : Type 0} (f g h : X → ℕ) → ((x : X) → h x ≡ f x + g x) → (xs : List X) → sum_by h xs ≡ sum_by f xs + sum_by g xs
sum_by_plus f g h e [] = refl
sum_by_plus f g h e (x ∷ xs) = omega (arith, sum_by-cons f x xs, sum_by-cons g x xs, sum_by-cons h x xs, e x, sum_by_plus f g h e xs)

pub sum_by_zero : {X : Type 0} (xs : List X) → sum_by (λ (x : X). 0) xs ≡ 0
sum_by_zero [] = refl
sum_by_zero {X} (x ∷ xs) = omega (arith, sum_by-cons (λ (y : X). 0) x xs, sum_by_zero xs)

pub same_bytes : (a b : List ℕ) → bytes_eq a b ≡ true → a ≡ b
same_bytes a b e = (bytes_eq-Decides a b).0 e

pub bytes_eq_self : (a : List ℕ) → bytes_eq a a ≡ true
bytes_eq_self a = (bytes_eq-Decides a a).1 refl

-- an amount where the name is x
abbrev pub part : List ℕ → ℕ → List ℕ → ℕ
part x n y = cond (bytes_eq x y) n 0

-- over names, each once, the name x counts once if it is there
pub sum_distinct : (x : List ℕ) (n : ℕ) (names : List (List ℕ)) → sum_by (part x n) (distinct names) ≡ cond (is_among x names) n 0
sum_distinct x n [] = refl
sum_distinct x n (y ∷ ys) = go (bytes_eq x y) refl (is_among y ys) refl (sum_distinct x n ys)
  where
    go : (s : Bool) → bytes_eq x y ≡ s → (r : Bool) → is_among y ys ≡ r → sum_by (part x n) (distinct ys) ≡ cond (is_among x ys) n 0
        → sum_by (part x n) (cond r (distinct ys) (y ∷ distinct ys)) ≡ cond (s || is_among x ys) n 0
    go true s true r ih = ih ∙ ap (λ b. cond b n 0) (ap (λ z. is_among z ys) (same_bytes x y s) ∙ r)
    go false s true r ih = ih
    go true s false r ih =
        let gone : sum_by (part x n) (distinct ys) ≡ 0 = ih ∙ ap (λ b. cond b n 0) (ap (λ z. is_among z ys) (same_bytes x y s) ∙ r) in
        let here : part x n y ≡ n = rw s refl in
        omega (arith, sum_by-cons (part x n) y (distinct ys), gone, here)
    go false s false r ih =
        let here : part x n y ≡ 0 = rw s refl in
        omega (arith, sum_by-cons (part x n) y (distinct ys), ih, here)

or_true : (a b : Bool) → b ≡ true → (a || b) ≡ true
or_true true b h = refl
or_true false b h = h

pub is_among-later : (x : List ℕ) (xs ys : List (List ℕ)) → is_among x ys ≡ true → is_among x (xs ++ ys) ≡ true
is_among-later x [] ys h = h
is_among-later x (y ∷ xs) ys h = or_true (bytes_eq x y) (is_among x (xs ++ ys)) (is_among-later x xs ys h)

pub is_among-head : (x : List ℕ) (xs : List (List ℕ)) → is_among x (x ∷ xs) ≡ true
is_among-head x xs = rw (bytes_eq_self x) refl

part_le : (f : List ℕ → ℕ) (x y : List ℕ) → part x (f x) y ≤ f y
part_le f x y = go (bytes_eq x y) refl
  where
    go : (s : Bool) → bytes_eq x y ≡ s → cond s (f x) 0 ≤ f y
    go false s = omega arith
    go true s = omega (arith, ap f (same_bytes x y s))

-- one of the names has no more than all
pub one_le : (f : List ℕ → ℕ) (x : List ℕ) (names : List (List ℕ)) → is_among x names ≡ true → f x ≤ sum_by f (distinct names)
one_le f x names h =
    omega (arith, sum_distinct x (f x) names ∙ ap (λ b. cond b (f x) 0) h, sum_by-le-sum_by (part x (f x)) f (distinct names) (part_le f x))
