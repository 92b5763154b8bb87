-- The words over two lists, one place further.
use Rattle.std.proofs.Common.{◌≡◌, ℕ, zero, suc, min, ◌+◌, ◌<◌, Bool, true, false, ◌&&◌, List, [], ◌∷◌, length, get_or, drop, refl, sym, ap, ◌∙◌, arith}
use Rattle.std.specs.Prelude.{Option, None, MatchBool}
use Rattle.std.specs.List.{AllWithin, HoldsAt, zip}
use Rattle.std.proofs.lemmas.List.{at_drop_more}
use Rattle.channel_values.specs.Words.{all_along, first_along, ◌⊳◌}

pub all_along-drop : {X Y : Type 0} (p : X → Y → Bool) (xs : List X) (ys : List Y) (i : ℕ) (x : X) (y : Y) → i < length xs → i < length ys → x ≡ get_or xs i x → y ≡ get_or ys i y → all_along p (drop i xs) (drop i ys) ≡ (p x y && all_along p (drop (i + 1) xs) (drop (i + 1) ys))
all_along-drop p xs ys i x y h k ex ey =
    at_drop_more (λ zs. all_along p zs (drop i ys)) xs i x h
    ∙ (at_drop_more (λ zs. all_along p (get_or xs i x ∷ drop (i + 1) xs) zs) ys i y k
    ∙ (ap (λ a. p a (get_or ys i y) && all_along p (drop (i + 1) xs) (drop (i + 1) ys)) (sym ex)
    ∙ ap (λ b. p x b && all_along p (drop (i + 1) xs) (drop (i + 1) ys)) (sym ey)))

pub first_along-drop : {X Y E : Type 0} (f : X → Y → Option E) (xs : List X) (ys : List Y) (i : ℕ) (x : X) (y : Y) → i < length xs → i < length ys → x ≡ get_or xs i x → y ≡ get_or ys i y → first_along f (drop i xs) (drop i ys) ≡ (f x y ⊳ first_along f (drop (i + 1) xs) (drop (i + 1) ys))
first_along-drop f xs ys i x y h k ex ey =
    at_drop_more (λ zs. first_along f zs (drop i ys)) xs i x h
    ∙ (at_drop_more (λ zs. first_along f (get_or xs i x ∷ drop (i + 1) xs) zs) ys i y k
    ∙ (ap (λ a. f a (get_or ys i y) ⊳ first_along f (drop (i + 1) xs) (drop (i + 1) ys)) (sym ex)
    ∙ ap (λ b. f x b ⊳ first_along f (drop (i + 1) xs) (drop (i + 1) ys)) (sym ey)))

pub all_along-end : {X Y : Type 0} (p : X → Y → Bool) (xs : List X) (ys : List Y) → length ys ≡ 0 → length xs ≡ 0 → all_along p xs ys ≡ true
all_along-end p [] [] h k = refl
all_along-end p (x ∷ xs) ys h k = absurd (omega arith)
all_along-end p [] (y ∷ ys) h k = absurd (omega arith)

-- lists of two lengths agree nowhere
pub all_along-long : {X Y : Type 0} (p : X → Y → Bool) (xs : List X) (ys : List Y) → (length xs ≡ length ys → ⊥) → all_along p xs ys ≡ false
all_along-long p [] [] h = absurd (h refl)
all_along-long p [] (y ∷ ys) h = refl
all_along-long p (x ∷ xs) [] h = refl
all_along-long p (x ∷ xs) (y ∷ ys) h = and_false (p x y) _ (all_along-long p xs ys (λ e. h (ap suc e)))
  where
    and_false : (a b : Bool) → b ≡ false → (a && b) ≡ false
    and_false true b e = e
    and_false false b e = refl

pub all_along-lengths : {X Y : Type 0} (p : X → Y → Bool) (xs : List X) (ys : List Y) → all_along p xs ys ≡ true → length xs ≡ length ys
all_along-lengths p [] [] h = refl
all_along-lengths p [] (y ∷ ys) h = absurd cc
all_along-lengths p (x ∷ xs) [] h = absurd cc
all_along-lengths p (x ∷ xs) (y ∷ ys) h = ap suc (all_along-lengths p xs ys (and_right (p x y) _ h))
  where
    and_right : (a b : Bool) → (a && b) ≡ true → b ≡ true
    and_right true b e = e
    and_right false b e = absurd cc

-- no fault is left where one of the lists is over
pub first_along-over : {X Y E : Type 0} (f : X → Y → Option E) (xs : List X) (ys : List Y) (i : ℕ) → i ≡ min (length xs) (length ys) → first_along f (drop i xs) (drop i ys) ≡ None
first_along-over f [] ys i h = let e : i ≡ 0 = omega arith in rw e refl
first_along-over f (x ∷ xs) [] i h = let e : i ≡ 0 = omega arith in rw e refl
first_along-over f (x ∷ xs) (y ∷ ys) zero h = absurd (omega arith)
first_along-over f (x ∷ xs) (y ∷ ys) (suc i) h = first_along-over f xs ys i (omega arith)

-- two lists of one length, pair by pair
pub all_along-from_all : {X Y : Type 0} (p : X → Y → Bool) (xs : List X) (ys : List Y) (r : Bool) → length xs ≡ length ys
    → MatchBool r (AllWithin (λ (q : X × Y). p q.0 q.1 ≡ true) (zip xs ys) 0 (length (zip xs ys))) ((k : ℕ) × (k < length (zip xs ys)) × HoldsAt (λ (q : X × Y). p q.0 q.1 ≡ false) (zip xs ys) k)
    → r ≡ all_along p xs ys
all_along-from_all p [] [] true e h = refl
all_along-from_all p [] [] false e h = absurd (let k = h.1 in omega arith)
all_along-from_all p [] (y ∷ ys) r e h = absurd (omega arith)
all_along-from_all p (x ∷ xs) [] r e h = absurd (omega arith)
all_along-from_all p (x ∷ xs) (y ∷ ys) true e h =
    let here : p x y ≡ true = h 0 (x, y) (omega arith) (omega arith) in
    let rest = all_along-from_all p xs ys true (omega arith) (λ k d a b. h (suc k) d (omega arith) (omega arith)) in
    rest ∙ ap (λ b. b && all_along p xs ys) (sym here)
all_along-from_all {X = X} {Y = Y} p (x ∷ xs) (y ∷ ys) false e h = at_place h.0 h.1 h.2 (λ k l g. all_along-from_all p xs ys false (omega arith) (k, l, g))
  where
    none_left : (a b : Bool) → false ≡ b → false ≡ (a && b)
    none_left true b e = e
    none_left false b e = refl

    at_place : (k : ℕ) → k < length (zip (x ∷ xs) (y ∷ ys)) → HoldsAt (λ (q : X × Y). p q.0 q.1 ≡ false) (zip (x ∷ xs) (y ∷ ys)) k
        → ((k : ℕ) → k < length (zip xs ys) → HoldsAt (λ (q : X × Y). p q.0 q.1 ≡ false) (zip xs ys) k → false ≡ all_along p xs ys) → false ≡ (p x y && all_along p xs ys)
    at_place zero l g rest = ap (λ b. b && all_along p xs ys) (sym (g (x, y)))
    at_place (suc k) l g rest = none_left (p x y) (all_along p xs ys) (rest k (omega arith) (λ d. g d))
