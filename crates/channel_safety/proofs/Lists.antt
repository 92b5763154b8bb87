-- Splits of lists, members of them, and what stands at a place.
use Rattle.std.proofs.Common.{◌≡◌, ℕ, zero, suc, ◌-◌, ◌<◌, ◌≤◌, Bool, true, false, ◌||◌, List, [], ◌∷◌, ◌++◌, ◌⊎◌, inl, inr, length, drop, map, refl, sym, ◌∙◌, ap, arith}
use Rattle.std.specs.Prelude.{Some, slice_set}
use Rattle.std.specs.List.{list_any, slice_get}
use Rattle.std.specs.Str.{bytes_eq}
use Rattle.channel_values.specs.Outcomes.{AreApart}
use Rattle.call_history.proofs.Names.{bytes_eq_self}
use Rattle.channel_safety.specs.Journals.{In}
pub use Rattle.channel_safety.proofs.Members.{In-append_right, In-append_left, In-append_cases, In-take, In-drop}
use Rattle.channel_safety.proofs.Tests.{some-eq, none-eq}

pub record Split {A : Type 0} (x : A) (xs : List A) : Type 0 where
  pub newer : List A
  pub front : List A
  pub is : xs ≡ newer ++ x ∷ front

pub split_of : {A : Type 0} (x : A) (xs : List A) → In x xs → Split x xs
split_of x [] i = absurd i
split_of x (y ∷ ys) (inl e) = record { newer = []; front = ys; is = ap (λ z. z ∷ ys) (sym e) }
split_of x (y ∷ ys) (inr i) = let s = split_of x ys i in record { newer = y ∷ s.newer; front = s.front; is = ap (λ zs. y ∷ zs) s.is }

-- the end of a list, of a length that it has
pub record Suffix {A : Type 0} (xs : List A) (k : ℕ) : Type 0 where
  pub later : List A
  pub past : List A
  pub is : xs ≡ later ++ past
  pub len : length past ≡ k

pub suffix_of : {A : Type 0} (xs : List A) (k : ℕ) → k ≤ length xs → Suffix xs k
suffix_of [] k h = record { later = []; past = []; is = refl; len = omega arith }
suffix_of (y ∷ ys) k h = go (cases k (length ys) h) (suffix_of ys k)
  where
    cases : (a b : ℕ) → a ≤ suc b → (a ≤ b) ⊎ (suc b ≡ a)
    cases a b l = grind arith

    go : (k ≤ length ys) ⊎ (suc (length ys) ≡ k) → (k ≤ length ys → Suffix ys k) → Suffix (y ∷ ys) k
    go (inl l) below = let s = below l in record { later = y ∷ s.later; past = s.past; is = ap (λ zs. y ∷ zs) s.is; len = s.len }
    go (inr e) below = record { later = []; past = y ∷ ys; is = refl; len = e }

pub append_assoc' : {A : Type 0} (xs ys zs : List A) → xs ++ (ys ++ zs) ≡ (xs ++ ys) ++ zs
append_assoc' [] ys zs = refl
append_assoc' (x ∷ xs) ys zs = ap (λ w. x ∷ w) (append_assoc' xs ys zs)

pub length-up : {A : Type 0} (xs ys : List A) → length ys ≤ length (xs ++ ys)
length-up [] ys = omega arith
length-up (x ∷ xs) ys = let h : length ys ≤ length (xs ++ ys) = length-up xs ys in omega arith

pub In-get : {A : Type 0} (xs : List A) (i : ℕ) (x : A) → slice_get xs i ≡ Some x → In x xs
In-get [] i x e = absurd (none-eq x e)
In-get (y ∷ xs) zero x e = inl (some-eq x y (let q : Some y ≡ Some x = e in sym q))
In-get (y ∷ xs) (suc i) x e = inr (In-get xs i x e)

-- ---- what stands at a place

pub get-within : {A : Type 0} (xs : List A) (i : ℕ) (x : A) → slice_get xs i ≡ Some x → i < length xs
get-within [] i x e = absurd (none-eq x e)
get-within (y ∷ xs) zero x e = omega arith
get-within (y ∷ xs) (suc i) x e = let b : i < length xs = get-within xs i x e in omega arith

pub get-some : {A : Type 0} (xs : List A) (i : ℕ) → i < length xs → (x : A) × (slice_get xs i ≡ Some x)
get-some [] i h = absurd (omega arith)
get-some (x ∷ xs) zero h = (x, refl)
get-some (x ∷ xs) (suc i) h = get-some xs i (omega arith)

pub get-append : {A : Type 0} (xs ys : List A) (i : ℕ) → i < length xs → slice_get (xs ++ ys) i ≡ slice_get xs i
get-append [] ys i h = absurd (omega arith)
get-append (x ∷ xs) ys zero h = refl
get-append (x ∷ xs) ys (suc i) h = get-append xs ys i (omega arith)

pub get-end : {A : Type 0} (xs : List A) (y : A) → slice_get (xs ++ y ∷ []) (length xs) ≡ Some y
get-end [] y = refl
get-end (x ∷ xs) y = get-end xs y

pub get-drop : {A : Type 0} (xs : List A) (d i : ℕ) → d ≤ i → slice_get (drop d xs) (i - d) ≡ slice_get xs i
get-drop xs zero i h = ap (slice_get xs) (minus-zero i)
  where
    minus-zero : (i : ℕ) → i - 0 ≡ i
    minus-zero i = omega arith
get-drop [] (suc d) i h = refl
get-drop (x ∷ xs) (suc d) zero h = absurd (omega arith)
get-drop (x ∷ xs) (suc d) (suc i) h = let e : suc i - suc d ≡ i - d = omega arith in ap (slice_get (drop d xs)) e ∙ get-drop xs d i (omega arith)

pub record Mapped {A : Type 0} (f : A → A) (xs : List A) (i : ℕ) (y : A) : Type 0 where
  pub from : A
  pub at : slice_get xs i ≡ Some from
  pub is : y ≡ f from

pub get-map : {A : Type 0} (f : A → A) (xs : List A) (i : ℕ) (y : A) → slice_get (map f xs) i ≡ Some y → Mapped f xs i y
get-map f [] i y e = absurd (none-eq y e)
get-map f (x ∷ xs) zero y e = record { from = x; at = refl; is = sym (some-eq (f x) y e) }
get-map f (x ∷ xs) (suc i) y e = let m = get-map f xs i y e in record { from = m.from; at = m.at; is = m.is }

pub get-set : {A : Type 0} (xs : List A) (j i : ℕ) (m x : A) → slice_get (slice_set xs j m) i ≡ Some x → ((i ≡ j) × (x ≡ m)) ⊎ ((i ≡ j → ⊥) × (slice_get xs i ≡ Some x))
get-set [] j i m x e = absurd (none-eq x e)
get-set (y ∷ xs) zero zero m x e = inl (refl, sym (some-eq m x e))
get-set (y ∷ xs) zero (suc i) m x e = inr (λ q. absurd (omega arith), e)
get-set (y ∷ xs) (suc j) zero m x e = inr (λ q. absurd (omega arith), e)
get-set (y ∷ xs) (suc j) (suc i) m x e = go (get-set xs j i m x e)
  where
    go : ((i ≡ j) × (x ≡ m)) ⊎ ((i ≡ j → ⊥) × (slice_get xs i ≡ Some x)) → ((suc i ≡ suc j) × (x ≡ m)) ⊎ ((suc i ≡ suc j → ⊥) × (slice_get (y ∷ xs) (suc i) ≡ Some x))
    go (inl p) = inl (ap suc p.0, p.1)
    go (inr p) = inr (λ q. p.0 (omega arith), p.1)

pub get-push : {A : Type 0} (xs : List A) (i : ℕ) (m x : A) → slice_get (xs ++ m ∷ []) i ≡ Some x → ((i ≡ length xs) × (x ≡ m)) ⊎ (slice_get xs i ≡ Some x)
get-push [] zero m x e = inl (refl, sym (some-eq m x e))
get-push [] (suc i) m x e = absurd (none-eq x e)
get-push (y ∷ xs) zero m x e = inr e
get-push (y ∷ xs) (suc i) m x e = go (get-push xs i m x e)
  where
    go : ((i ≡ length xs) × (x ≡ m)) ⊎ (slice_get xs i ≡ Some x) → ((suc i ≡ suc (length xs)) × (x ≡ m)) ⊎ (slice_get xs i ≡ Some x)
    go (inl p) = inl (ap suc p.0, p.1)
    go (inr p) = inr p

-- ---- keys that are apart

none-any : {A : Type 0} (test : A → Bool) (xs : List A) (i : ℕ) (x : A) → list_any test xs ≡ false → slice_get xs i ≡ Some x → test x ≡ false
none-any test [] i x h e = absurd (none-eq x e)
none-any test (y ∷ xs) zero x h e = ap test (sym (some-eq y x e)) ∙ first (test y) (list_any test xs) h
  where
    first : (a b : Bool) → (a || b) ≡ false → a ≡ false
    first true b h = h
    first false b h = refl
none-any test (y ∷ xs) (suc i) x h e = none-any test xs i x (rest (test y) (list_any test xs) h) e
  where
    rest : (a b : Bool) → (a || b) ≡ false → b ≡ false
    rest true b h = cc
    rest false b h = h

not-itself : (x : List ℕ) → bytes_eq x x ≡ false → ⊥
not-itself x h = let e : bytes_eq x x ≡ true = bytes_eq_self x in cc

-- one key stands at one place
pub one-place : (keys : List (List ℕ)) (key : List ℕ) (i j : ℕ) → AreApart bytes_eq keys → slice_get keys i ≡ Some key → slice_get keys j ≡ Some key → i ≡ j
one-place [] key i j apart a b = absurd (none-eq key a)
one-place (x ∷ keys) key zero zero apart a b = refl
one-place (x ∷ keys) key zero (suc j) apart a b =
    let same : x ≡ key = some-eq x key a in
    absurd (not-itself x (none-any (bytes_eq x) keys j x apart.0 (b ∙ ap Some (sym same))))
one-place (x ∷ keys) key (suc i) zero apart a b =
    let same : x ≡ key = some-eq x key b in
    absurd (not-itself x (none-any (bytes_eq x) keys i x apart.0 (a ∙ ap Some (sym same))))
one-place (x ∷ keys) key (suc i) (suc j) apart a b = ap suc (one-place keys key i j apart.1 a b)
