-- Sums over a list, beginnings of a list, and legal histories.
use Rattle.std.proofs.Common.{◌≡◌, ◌≢◌, ◌⊎◌, inl, inr, ⊎_elim, ℕ, zero, suc, ◌+◌, ◌<◌, ◌≤◌, Bool, true, false, cond, List, [], ◌∷◌, ◌++◌, length, take, set, refl, sym, ap, ◌∙◌, subst, arith, length-append, eq-eqb, ne_eqb}
use Rattle.std.proofs.lemmas.Bool.{ltb-true, ltb-false}
use Rattle.std.proofs.Math.Dec.{ltb}
use mathlib.Core.Logic.{dite}
use native.Mathlib.Decide.{ℕ_discrete}
use mathlib.Core.Option.{some, some-injective, some-ne-none}
use lib.ListN.{get_elem?}
use Rattle.shared_object.specs.History.{StartsWith, total, same, once, IsLegal}
use Rattle.shared_object.specs.Caller.{longer}

module _ {A : Type 0} where
  pub total_set : (f : A → ℕ) (l : List A) (i : ℕ) (v w : A) → get_elem? l i ≡ some v → total f (set l i w) + f v ≡ total f l + f w
  total_set f [] i v w e = absurd (some-ne-none v (sym e))
  total_set f (x ∷ xs) zero v w e = let is : f x ≡ f v = ap f (some-injective x v e) in omega arith
  total_set f (x ∷ xs) (suc i) v w e = let r = total_set f xs i v w e in omega arith

  pub total_same : (f : A → ℕ) (l : List A) (i : ℕ) (v w : A) → get_elem? l i ≡ some v → f w ≡ f v → total f (set l i w) ≡ total f l
  total_same f l i v w e q = let r = total_set f l i v w e in omega arith

  pub total-append : (f : A → ℕ) (l m : List A) → total f (l ++ m) ≡ total f l + total f m
  total-append f [] m = omega arith
  total-append f (x ∷ xs) m = let r = total-append f xs m in omega arith

  pub total_le : (f g : A → ℕ) (l : List A) → ((j : ℕ) (v : A) → get_elem? l j ≡ some v → f v ≤ g v) → total f l ≤ total g l
  total_le f g [] h = omega arith
  total_le f g (x ∷ xs) h = let a = h 0 x refl in let r = total_le f g xs (λ j v e. h (suc j) v e) in omega arith

  pub total_at : (f : A → ℕ) (l : List A) (i : ℕ) (v : A) → get_elem? l i ≡ some v → f v ≤ total f l
  total_at f [] i v e = absurd (some-ne-none v (sym e))
  total_at f (x ∷ xs) zero v e = let is : f x ≡ f v = ap f (some-injective x v e) in omega arith
  total_at f (x ∷ xs) (suc i) v e = let r = total_at f xs i v e in omega arith

  -- where one has all, another has none
  pub total_other : (f : A → ℕ) (l : List A) (i j : ℕ) (v w : A) → get_elem? l i ≡ some v → get_elem? l j ≡ some w → j ≢ i → f v ≡ total f l → f w ≡ 0
  total_other f [] i j v w e d n q = absurd (some-ne-none v (sym e))
  total_other f (x ∷ xs) zero zero v w e d n q = absurd (n refl)
  total_other f (x ∷ xs) zero (suc j) v w e d n q = let is : f x ≡ f v = ap f (some-injective x v e) in let r = total_at f xs j w d in omega arith
  total_other f (x ∷ xs) (suc i) zero v w e d n q = let is : f x ≡ f w = ap f (some-injective x w d) in let r = total_at f xs i v e in omega arith
  total_other f (x ∷ xs) (suc i) (suc j) v w e d n q = let r = total_at f xs i v e in total_other f xs i j v w e d (λ h. n (ap suc h)) (omega arith)

  pub total_none : (f : A → ℕ) (l : List A) → ((j : ℕ) (v : A) → get_elem? l j ≡ some v → f v ≡ 0) → total f l ≡ 0
  total_none f [] h = refl
  total_none f (x ∷ xs) h = let a = h 0 x refl in let r = total_none f xs (λ j v e. h (suc j) v e) in omega arith

  -- where the others have none, one has all
  pub total_alone : (f : A → ℕ) (l : List A) (i : ℕ) (v : A) → get_elem? l i ≡ some v → ((j : ℕ) (w : A) → get_elem? l j ≡ some w → j ≢ i → f w ≡ 0) → total f l ≡ f v
  total_alone f [] i v e h = absurd (some-ne-none v (sym e))
  total_alone f (x ∷ xs) zero v e h = let is : f x ≡ f v = ap f (some-injective x v e) in let r = total_none f xs (λ j w d. h (suc j) w d (λ z. omega arith)) in omega arith
  total_alone f (x ∷ xs) (suc i) v e h = let a = h 0 x refl (λ z. omega arith) in let r = total_alone f xs i v e (λ j w d n. h (suc j) w d (λ z. n (omega arith))) in omega arith

  pub append_none : (l : List A) → l ++ [] ≡ l
  append_none [] = refl
  append_none (y ∷ ys) = ap (λ zs. y ∷ zs) (append_none ys)

  pub starts_refl : (xs : List A) → StartsWith xs xs
  starts_refl xs = ([], sym (append_none xs))

  assoc : (l m n : List A) → (l ++ m) ++ n ≡ l ++ (m ++ n)
  assoc [] m n = refl
  assoc (x ∷ xs) m n = ap (λ zs. x ∷ zs) (assoc xs m n)

  pub starts_trans : (xs ys zs : List A) → StartsWith xs ys → StartsWith ys zs → StartsWith xs zs
  starts_trans xs ys zs p q = (q.0 ++ p.0, p.1 ∙ ap (λ l. l ++ p.0) q.1 ∙ assoc zs q.0 p.0)

  pub starts_length : (xs ys : List A) → StartsWith xs ys → length ys ≤ length xs
  starts_length xs ys p = omega (arith, ap length p.1, length-append ys p.0)

  pub starts_whole : (xs ys : List A) → StartsWith xs ys → length xs ≤ length ys → ys ≡ xs
  starts_whole xs ys p le = whole p.0 p.1 (omega (arith, ap length p.1, length-append ys p.0))
    where
      whole : (rest : List A) → xs ≡ ys ++ rest → length rest ≡ 0 → ys ≡ xs
      whole [] e z = sym (append_none ys) ∙ sym e
      whole (x ∷ r) e z = absurd (omega arith)

module _ {A : Type 0} where
  pub longer_of : (xs ys : List A) → (length xs ≤ length (longer xs ys)) × (length ys ≤ length (longer xs ys))
  longer_of xs ys = pick (ltb (length xs) (length ys)) refl
    where
      pick : (b : Bool) → ltb (length xs) (length ys) ≡ b → (length xs ≤ length (cond b ys xs)) × (length ys ≤ length (cond b ys xs))
      pick true e = let t = ltb-true (length xs) (length ys) e in (omega arith, omega arith)
      pick false e = let t = ltb-false (length xs) (length ys) e in (omega arith, omega arith)

  pub longer_is : (P : List A → Type 0) (xs ys : List A) → P xs → P ys → P (longer xs ys)
  longer_is P xs ys p q = pick (ltb (length xs) (length ys))
    where
      pick : (b : Bool) → P (cond b ys xs)
      pick true = q
      pick false = p

  -- of two beginnings of a list the longer begins with the shorter
  pub starts_both : (log xs ys : List A) → StartsWith log xs → StartsWith log ys → length ys ≤ length xs → StartsWith xs ys
  starts_both log xs [] p q le = (xs, refl)
  starts_both log [] (y ∷ ys) p q le = absurd (omega arith)
  starts_both [] (x ∷ xs) (y ∷ ys) p q le = absurd (omega (arith, ap length p.1))
  starts_both (l ∷ log) (x ∷ xs) (y ∷ ys) p q le =
      let head : x ≡ y = (let a = p.1 in let b = q.1 in cc) in
      let tail_p : log ≡ xs ++ p.0 = (let a = p.1 in cc) in
      let tail_q : log ≡ ys ++ q.0 = (let b = q.1 in cc) in
      let r = starts_both log xs ys (p.0, tail_p) (q.0, tail_q) (omega arith) in (r.0, λ i. head i ∷ r.1 i)

  pub longer_starts : (log xs ys : List A) → StartsWith log xs → StartsWith log ys → StartsWith (longer xs ys) xs
  longer_starts log xs ys p q = pick (ltb (length xs) (length ys)) refl
    where
      pick : (b : Bool) → ltb (length xs) (length ys) ≡ b → StartsWith (cond b ys xs) xs
      pick true e = let t = ltb-true (length xs) (length ys) e in starts_both log ys xs q p (omega arith)
      pick false e = starts_refl xs

  pub longer_hears : (log xs ys : List A) → StartsWith log xs → StartsWith log ys → StartsWith (longer xs ys) ys
  longer_hears log xs ys p q = pick (ltb (length xs) (length ys)) refl
    where
      pick : (b : Bool) → ltb (length xs) (length ys) ≡ b → StartsWith (cond b ys xs) ys
      pick true e = starts_refl ys
      pick false e = let t = ltb-false (length xs) (length ys) e in starts_both log xs ys p q (omega arith)

pub same_pos : (k x : ℕ) → 0 < same k x → k ≡ x
same_pos k x h = dite (ℕ_discrete x k) (λ e. sym e) (λ n. let z : same k x ≡ 0 = ap (λ b. cond b 1 0) (ne_eqb x k n) in absurd (omega arith))

pub once_pos : (k n : ℕ) → 0 < once k n → k ≤ n
once_pos k zero h = absurd (omega arith)
once_pos k (suc n) h = dite (ℕ_discrete (same k (suc n)) 0) (λ z. let r = once_pos k n (omega arith) in omega arith) (λ p. let e = same_pos k (suc n) (omega arith) in omega arith)

pub once_top : (n : ℕ) → 0 < once (suc n) (suc n)
once_top n = let e : same (suc n) (suc n) ≡ 1 = ap (λ b. cond b 1 0) (eq-eqb (suc n) (suc n) refl) in omega arith

module _ {A : Type 0} where
  at_end : (l : List A) (a b : A) (j : ℕ) → get_elem? (l ++ a ∷ []) j ≡ some b → ((get_elem? l j ≡ some b) × (take j (l ++ a ∷ []) ≡ take j l)) ⊎ ((j ≡ length l) × (a ≡ b) × (take j (l ++ a ∷ []) ≡ l))
  at_end [] a b zero e = inr (refl, some-injective a b e, refl)
  at_end [] a b (suc j) e = absurd (some-ne-none b (sym e))
  at_end (x ∷ xs) a b zero e = inl (e, refl)
  at_end (x ∷ xs) a b (suc j) e = ⊎_elim (λ (t : (get_elem? xs j ≡ some b) × (take j (xs ++ a ∷ []) ≡ take j xs)). inl (t.0, ap (λ l. x ∷ l) t.1))
      (λ (t : (j ≡ length xs) × (a ≡ b) × (take j (xs ++ a ∷ []) ≡ xs)). inr (ap suc t.0, t.1, ap (λ l. x ∷ l) t.2)) (at_end xs a b j e)

module _ {E C : Type 0} (gives : List E → ℕ → ℕ → C → E) where
  -- one more entry that the object gives
  pub legal_more : (h : List E) (x : E) (by : ℕ) (call : C) → IsLegal gives h → x ≡ gives h (length h + 1) by call → IsLegal gives (h ++ x ∷ [])
  legal_more h x by call legal is k e at =
      ⊎_elim
      (λ (t : (get_elem? h k ≡ some e) × (take k (h ++ x ∷ []) ≡ take k h)). let l = legal k e t.0 in (l.0, l.1, l.2 ∙ ap (λ (z : List E). gives z (k + 1) l.0 l.1) (sym t.1)))
      (λ (t : (k ≡ length h) × (x ≡ e) × (take k (h ++ x ∷ []) ≡ h)). (by, call, sym t.1 ∙ is ∙ λ i. gives (sym t.2 i) (sym t.0 i + 1) by call))
      (at_end h x e k at)

pub once_one : (k n : ℕ) → 0 < k → k ≤ n → 0 < once k n
once_one k zero p le = absurd (omega arith)
once_one k (suc n) p le = dite (ℕ_discrete k (suc n)) (λ e. subst (λ (m : ℕ). 0 < once m (suc n)) (sym e) (once_top n)) (λ ne. let r = once_one k n p (omega arith) in omega arith)
