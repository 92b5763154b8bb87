-- The first element of a list that passes a test stands at the place that is found.
use Rattle.std.proofs.Common.{◌≡◌, ℕ, suc, ◌+◌, ◌<◌, ◌≤◌, List, ◌∷◌, ◌++◌, length, take, drop, Bool, true, false, cond, Some, None, refl, sym, ◌∙◌, ap, subst, arith}
use Rattle.std.proofs.lemmas.Bool.{ltb-true}
use Rattle.std.proofs.lemmas.Bool.Decides.{nat_tests}
use Rattle.std.proofs.lemmas.List.{set_split}
use Rattle.std.proofs.lemmas.List.Folds.{find_at}
use Rattle.std.proofs.lemmas.Option.{slice_get_past, slice_get_within}
use Rattle.std.specs.Prelude.{nat_lt, slice_get, slice_set}
use Rattle.std.specs.List.{find, position, position_or_len, before_first, after_first}

pub placed : {X : Type 0} (test : X → Bool) (xs : List X) (place : ℕ) → Some place ≡ position test xs → (place ≡ position_or_len test xs) × (place < length xs)
placed test xs place e = by (nat_lt (position_or_len test xs) (length xs)) refl e
  where
    same_place : (n : ℕ) → Some place ≡ Some n → place ≡ n
    same_place n e = cc

    by : (b : Bool) → nat_lt (position_or_len test xs) (length xs) ≡ b → Some place ≡ cond b (Some (position_or_len test xs)) None → (place ≡ position_or_len test xs) × (place < length xs)
    by true t e =
        let same = same_place (position_or_len test xs) e in
        (same, subst (λ (n : ℕ). n < length xs) (sym same) (ltb-true (position_or_len test xs) (length xs) t))
    by false t e = absurd (cc)

-- nothing is found where there is no place
pub nowhere : {X : Type 0} (test : X → Bool) (xs : List X) → None ≡ position test xs → find test xs ≡ None
nowhere test xs e = by (nat_lt (position_or_len test xs) (length xs)) refl e
  where
    outside : (a b : ℕ) → nat_lt a b ≡ false → b ≤ a
    outside a b t = grind (arith, nat_tests)

    by : (b : Bool) → nat_lt (position_or_len test xs) (length xs) ≡ b → None ≡ cond b (Some (position_or_len test xs)) None → find test xs ≡ None
    by true t e = absurd (cc)
    by false t e = find_at test xs ∙ slice_get_past xs (position_or_len test xs) (outside (position_or_len test xs) (length xs) t)

-- what is found is what stands at the place
pub there : {X : Type 0} (test : X → Bool) (xs : List X) (place : ℕ) → Some place ≡ position test xs → find test xs ≡ slice_get xs place
there test xs place e = find_at test xs ∙ ap (slice_get xs) (sym (placed test xs place e).0)

-- the list with another element at the place
pub put : {X : Type 0} (test : X → Bool) (xs : List X) (place : ℕ) (y : X) → Some place ≡ position test xs → slice_set xs place y ≡ before_first test xs ++ y ∷ after_first test xs
put test xs place y e =
    let p = placed test xs place e in
    let one : suc place ≡ place + 1 = omega arith in
    set_split xs place y p.1 ∙ ap (λ n. take place xs ++ y ∷ drop n xs) one ∙ ap (λ n. take n xs ++ y ∷ drop (n + 1) xs) p.0

-- ---- what is found stands at its place, which is inside

pub found_inside : {X : Type 0} (test : X → Bool) (xs : List X) (x : X) → find test xs ≡ Some x → (slice_get xs (position_or_len test xs) ≡ Some x) × (position_or_len test xs < length xs)
found_inside test xs x e =
    let at : slice_get xs (position_or_len test xs) ≡ Some x = sym (find_at test xs) ∙ e in
    (at, slice_get_within xs (position_or_len test xs) x at)

pub put_found : {X : Type 0} (test : X → Bool) (xs : List X) (x y : X) → find test xs ≡ Some x → slice_set xs (position_or_len test xs) y ≡ before_first test xs ++ y ∷ after_first test xs
put_found test xs x y e =
    let n = position_or_len test xs in
    let one : suc n ≡ n + 1 = omega arith in
    set_split xs n y (found_inside test xs x e).1 ∙ ap (λ (k : ℕ). take n xs ++ y ∷ drop k xs) one
