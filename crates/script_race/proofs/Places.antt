-- A list with another element in place of the first that passes a test.
use Rattle.std.proofs.Common.{◌≡◌, ℕ, suc, ◌+◌, List, [], ◌∷◌, ◌++◌, length, take, drop, Bool, true, false, cond, not, Option, Some, None, refl, sym, ◌∙◌, ap, subst, arith}
use Rattle.std.specs.List.{find, position_or_len, before_first, after_first}

take-more : {X : Type 0} (n : ℕ) (x : X) (xs : List X) → take (1 + n) (x ∷ xs) ≡ x ∷ take n xs
take-more n x xs = let e : 1 + n ≡ suc n = omega arith in ap (λ k. take k (x ∷ xs)) e

drop-more : {X : Type 0} (n : ℕ) (x : X) (xs : List X) → drop (1 + n + 1) (x ∷ xs) ≡ drop (n + 1) xs
drop-more n x xs = let e : 1 + n + 1 ≡ suc (n + 1) = omega arith in ap (λ k. drop k (x ∷ xs)) e

-- where an element is found the list is split at it, and any other that passes the test may stand there
pub record Splits {X : Type 0} (test : X → Bool) (xs : List X) (m : X) : Type 0 where
  pub front : List X
  pub back : List X
  pub at : xs ≡ front ++ m ∷ back
  pub passes : test m ≡ true
  pub before : (y : X) → test y ≡ true → before_first test (front ++ y ∷ back) ≡ front
  pub after : (y : X) → test y ≡ true → after_first test (front ++ y ∷ back) ≡ back
  pub finds : (y : X) → test y ≡ true → find test (front ++ y ∷ back) ≡ Some y

pub found : {X : Type 0} (test : X → Bool) (xs : List X) (m : X) → find test xs ≡ Some m → Splits test xs m
found test [] m e = absurd (cc)
found {X} test (x ∷ xs) m e = by (found test xs m) (test x) refl e
  where
    by : (find test xs ≡ Some m → Splits test xs m) → (b : Bool) → test x ≡ b → cond b (Some x) (find test xs) ≡ Some m → Splits test (x ∷ xs) m
    by later true t e =
        let same : x ≡ m = cc in
        record {
          front = [];
          back = xs;
          at = ap (λ y. y ∷ xs) same;
          passes = subst (λ y. test y ≡ true) same t;
          before = λ y p. ap (λ b. take (cond (not b) (1 + position_or_len test xs) 0) (y ∷ xs)) p;
          after = λ y p. ap (λ b. drop (cond (not b) (1 + position_or_len test xs) 0 + 1) (y ∷ xs)) p;
          finds = λ y p. ap (λ b. cond b (Some y) (find test xs)) p;
        }
    by later false t e =
        let s = later e in
        record {
          front = x ∷ s.front;
          back = s.back;
          at = ap (λ l. x ∷ l) s.at;
          passes = s.passes;
          before = λ y p. ap (λ b. take (cond (not b) (1 + position_or_len test (s.front ++ y ∷ s.back)) 0) (x ∷ (s.front ++ y ∷ s.back))) t
              ∙ take-more (position_or_len test (s.front ++ y ∷ s.back)) x (s.front ++ y ∷ s.back) ∙ ap (λ l. x ∷ l) (s.before y p);
          after = λ y p. ap (λ b. drop (cond (not b) (1 + position_or_len test (s.front ++ y ∷ s.back)) 0 + 1) (x ∷ (s.front ++ y ∷ s.back))) t
              ∙ drop-more (position_or_len test (s.front ++ y ∷ s.back)) x (s.front ++ y ∷ s.back) ∙ s.after y p;
          finds = λ y p. ap (λ b. cond b (Some x) (find test (s.front ++ y ∷ s.back))) t ∙ s.finds y p;
        }
