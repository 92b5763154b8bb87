-- A change of the first that passes a test: it is found so, and what passes only other tests is found as before.
use Rattle.std.proofs.Common.{◌≡◌, ℕ, suc, ◌+◌, Bool, true, false, cond, List, [], ◌∷◌, Some, set, refl, sym, ◌∙◌, ap, subst, arith}
use Rattle.std.specs.Prelude.{Option, not}
use Rattle.std.specs.List.{slice_get, find, position_or_len}
use Rattle.channel_safety.proofs.Tests.{some-eq, none-eq}

-- the place in a longer list
place_step : {X : Type 0} (is : X → Bool) (y : X) (ys : List X) → position_or_len is (y ∷ ys) ≡ cond (is y) 0 (suc (position_or_len is ys))
place_step is y ys = go (is y) (position_or_len is ys)
  where
    go : (b : Bool) (n : ℕ) → cond (not b) (1 + n) 0 ≡ cond b 0 (suc n)
    go true n = refl
    go false n = omega arith

-- what stands at the place
pub found_at_place : {X : Type 0} (is : X → Bool) (xs : List X) → slice_get xs (position_or_len is xs) ≡ find is xs
found_at_place is [] = refl
found_at_place is (y ∷ ys) = ap (slice_get (y ∷ ys)) (place_step is y ys) ∙ go (is y) (found_at_place is ys)
  where
    go : (b : Bool) → slice_get ys (position_or_len is ys) ≡ find is ys → slice_get (y ∷ ys) (cond b 0 (suc (position_or_len is ys))) ≡ cond b (Some y) (find is ys)
    go true rest = refl
    go false rest = rest

pub found_passes : {X : Type 0} (is : X → Bool) (xs : List X) (x : X) → find is xs ≡ Some x → is x ≡ true
found_passes is [] x e = absurd (none-eq x e)
found_passes is (y ∷ ys) x e = go (is y) refl (found_passes is ys x) e
  where
    go : (b : Bool) → is y ≡ b → (find is ys ≡ Some x → is x ≡ true) → cond b (Some y) (find is ys) ≡ Some x → is x ≡ true
    go true t rest f = subst (λ z. is z ≡ true) (some-eq y x f) t
    go false t rest f = rest f

pub changed_found : {X : Type 0} (is : X → Bool) (xs : List X) (before x : X) → find is xs ≡ Some before → is x ≡ true
    → find is (set xs (position_or_len is xs) x) ≡ Some x
changed_found is [] before x e t = absurd (none-eq before e)
changed_found {X = X} is (y ∷ ys) before x e t =
    subst (λ (n : ℕ). find is (set (y ∷ ys) n x) ≡ Some x) (sym (place_step is y ys)) (go (is y) refl (λ f. changed_found is ys before x f t) e)
  where
    go : (b : Bool) → is y ≡ b → (find is ys ≡ Some before → find is (set ys (position_or_len is ys) x) ≡ Some x) → cond b (Some y) (find is ys) ≡ Some before
        → find is (set (y ∷ ys) (cond b 0 (suc (position_or_len is ys))) x) ≡ Some x
    go true same rest f = ap (λ b. cond b (Some x) (find is ys)) t
    go false same rest f = ap (λ b. cond b (Some y) (find is (set ys (position_or_len is ys) x))) same ∙ rest f

pub others_found : {X : Type 0} (is other : X → Bool) (xs : List X) (before x : X) → find is xs ≡ Some before → other before ≡ false → other x ≡ false
    → find other (set xs (position_or_len is xs) x) ≡ find other xs
others_found is other [] before x e was new = absurd (none-eq before e)
others_found {X = X} is other (y ∷ ys) before x e was new =
    subst (λ (n : ℕ). find other (set (y ∷ ys) n x) ≡ find other (y ∷ ys)) (sym (place_step is y ys)) (go (is y) (λ f. others_found is other ys before x f was new) e)
  where
    go : (b : Bool) → (find is ys ≡ Some before → find other (set ys (position_or_len is ys) x) ≡ find other ys) → cond b (Some y) (find is ys) ≡ Some before
        → find other (set (y ∷ ys) (cond b 0 (suc (position_or_len is ys))) x) ≡ find other (y ∷ ys)
    go true rest f =
        ap (λ b. cond b (Some x) (find other ys)) new
        ∙ sym (ap (λ b. cond b (Some y) (find other ys)) (ap other (some-eq y before f) ∙ was))
    go false rest f = ap (λ (o : Option X). cond (other y) (Some y) o) (rest f)
