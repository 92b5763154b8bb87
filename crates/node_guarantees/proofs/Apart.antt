-- Names that are apart: what is kept of each is changed alone and found again.
use Rattle.std.proofs.Common.{◌≡◌, ℕ, suc, ◌+◌, Bool, true, false, cond, ◌||◌, not, List, [], ◌∷◌, ◌++◌, ◌⊎◌, inl, inr, refl, sym, ◌∙◌, ap, subst, arith}
use Rattle.std.specs.Prelude.{Option, Some, None, map, filter}
use Rattle.std.specs.List.{slice_get, find}
use Rattle.std.specs.Str.{bytes_eq}
use Rattle.channel_values.specs.Parts.{FixedParts}
use Rattle.channel_values.specs.Rules.{Rules}
use Rattle.call_history.proofs.Names.{same_bytes, bytes_eq_self}
use Rattle.call_history.specs.Flows.{is_among}
use Rattle.channel_store.specs.Storing.{is_of, place_of, kept_of, kept_at, kept_with}
use Rattle.channel_store.specs.declared.kept.Kept.{Kept}
use Rattle.channel_safety.proofs.Tests.{cond-true, cond-false, none-eq, and-left, and-right, clash}
use Rattle.channel_safety.specs.Journals.{In}
use Rattle.channel_safety.proofs.Members.{In-append_cases, In-map, mapped}
use Rattle.channel_store.proofs.Keeping.{named}
use Rattle.channel_node.specs.Openings.{are_apart}
use Rattle.channel_node.proofs.Allowing.{filter-in}

-- ---- names

-- no name stands twice among these
abbrev pub Apart : List (List ℕ) → Type 0
Apart [] = Unit {0}
Apart (n ∷ ns) = ((y : List ℕ) → In y ns → bytes_eq n y ≡ false) × Apart ns

-- what is no other name is none the other way round
pub apart-back : (a b : List ℕ) → bytes_eq a b ≡ false → bytes_eq b a ≡ false
apart-back a b e = go (bytes_eq b a) refl
  where
    go : (t : Bool) → bytes_eq b a ≡ t → t ≡ false
    go false is = refl
    go true is = absurd (clash (bytes_eq a b) (subst (λ (x : List ℕ). bytes_eq a x ≡ true) (sym (same_bytes b a is)) (bytes_eq_self a)) e)

pub false-left : (a b : Bool) → (a || b) ≡ false → a ≡ false
false-left true b e = e
false-left false b e = refl

false-right : (a b : Bool) → (a || b) ≡ false → b ≡ false
false-right true b e = absurd cc
false-right false b e = e

pub not-of : (b : Bool) → not b ≡ true → b ≡ false
not-of true e = absurd cc
not-of false e = refl

not-among : (name : List ℕ) (names : List (List ℕ)) → is_among name names ≡ false → (y : List ℕ) → In y names → bytes_eq name y ≡ false
not-among name [] e y i = absurd i
not-among name (n ∷ names) e y (inl same) = ap (bytes_eq name) same ∙ false-left (bytes_eq name n) (is_among name names) e
not-among name (n ∷ names) e y (inr i) = not-among name names (false-right (bytes_eq name n) (is_among name names) e) y i

pub apart-of : (names : List (List ℕ)) → are_apart names ≡ true → Apart names
apart-of [] e = tt
apart-of (n ∷ names) e = (
  not-among n names (not-of (is_among n names) (and-left (not (is_among n names)) (are_apart names) e)),
  apart-of names (and-right (not (is_among n names)) (are_apart names) e),
)

pub apart-append : (xs ys : List (List ℕ)) → Apart xs → Apart ys → ((x y : List ℕ) → In x xs → In y ys → bytes_eq x y ≡ false) → Apart (xs ++ ys)
apart-append [] ys a b cross = b
apart-append (x ∷ xs) ys a b cross = (
  λ y i. at y (In-append_cases y xs ys i),
  apart-append xs ys a.1 b (λ z y i j. cross z y (inr i) j),
)
  where
    at : (y : List ℕ) → In y xs ⊎ In y ys → bytes_eq x y ≡ false
    at y (inl i) = a.0 y i
    at y (inr j) = cross x y (inl refl) j

-- of the parts that pass a test
pub apart-filter : (r : Rules) (p : FixedParts → Bool) (gs : List FixedParts) → Apart (map r.named gs) → Apart (map r.named (filter p gs))
apart-filter r p [] a = tt
apart-filter r p (g ∷ gs) a = go (p g) (apart-filter r p gs a.1)
  where
    at : (y : List ℕ) → In y (map r.named (filter p gs)) → bytes_eq (r.named g) y ≡ false
    at y i = let m = mapped r.named y (filter p gs) i in ap (bytes_eq (r.named g)) m.is ∙ a.0 (r.named m.from) (In-map r.named m.from gs (filter-in p m.from gs m.there))

    go : (b : Bool) → Apart (map r.named (filter p gs)) → Apart (map r.named (cond b (g ∷ filter p gs) (filter p gs)))
    go true rest = (at, rest)
    go false rest = rest

-- ---- what is kept

abbrev pub names_of : List Kept → List (List ℕ)
names_of kept = map (λ k. k.channel) kept

pub found-named : (c : List ℕ) (kept : List Kept) (k : Kept) → kept_of c kept ≡ Some k → In c (names_of kept)
found-named c kept k e = at kept (sym (named c kept) ∙ e)
  where
    at : (ks : List Kept) → find (is_of c) ks ≡ Some k → In c (names_of ks)
    at [] e = absurd (none-eq k e)
    at (x ∷ ks) e = go (is_of c x) refl (at ks) e
      where
        go : (b : Bool) → is_of c x ≡ b → (find (is_of c) ks ≡ Some k → In c (names_of ks)) → cond b (Some x) (find (is_of c) ks) ≡ Some k → In c (x.channel ∷ names_of ks)
        go true t rest e = inl (sym (same_bytes x.channel c t))
        go false t rest e = inr (rest e)

pub none-named : (c : List ℕ) (kept : List Kept) → kept_of c kept ≡ None → (y : List ℕ) → In y (names_of kept) → bytes_eq y c ≡ false
none-named c kept e y i = at kept (sym (named c kept) ∙ e) i
  where
    at : (ks : List Kept) → find (is_of c) ks ≡ None → In y (names_of ks) → bytes_eq y c ≡ false
    at [] e i = absurd i
    at (x ∷ ks) e i = go (is_of c x) refl (at ks) e i
      where
        go : (b : Bool) → is_of c x ≡ b → (find (is_of c) ks ≡ None → In y (names_of ks) → bytes_eq y c ≡ false) → cond b (Some x) (find (is_of c) ks) ≡ None → In y (x.channel ∷ names_of ks) → bytes_eq y c ≡ false
        go true t rest e i = absurd (none-eq x (sym e))
        go false t rest e (inl same) = ap (λ (n : List ℕ). bytes_eq n c) same ∙ t
        go false t rest e (inr j) = rest e j

-- each of those that are apart is found by its name
pub found-again : (kept : List Kept) → Apart (names_of kept) → (k : Kept) → In k kept → kept_of k.channel kept ≡ Some k
found-again kept apart k i = named k.channel kept ∙ at kept apart i
  where
    at : (ks : List Kept) → Apart (names_of ks) → In k ks → find (is_of k.channel) ks ≡ Some k
    at [] apart i = absurd i
    at (x ∷ ks) apart (inl e) =
        cond-true (is_of k.channel x) (Some x) (find (is_of k.channel) ks) (ap (λ (y : Kept). bytes_eq y.channel k.channel) (sym e) ∙ bytes_eq_self k.channel) ∙ ap (λ (y : Kept). Some y) (sym e)
    at (x ∷ ks) apart (inr i) =
        cond-false (is_of k.channel x) (Some x) (find (is_of k.channel) ks) (apart.0 k.channel (In-map (λ (y : Kept). y.channel) k ks i)) ∙ at ks apart.1 i

-- ---- a change of one channel

abbrev pub changed_at : (Kept → Kept) → List ℕ → Kept → Kept
changed_at change c k = cond (is_of c k) (change k) k

place-step : (c : List ℕ) (k : Kept) (ks : List Kept) → place_of c (k ∷ ks) ≡ cond (is_of c k) 0 (suc (place_of c ks))
place-step c k ks = go (is_of c k) (place_of c ks)
  where
    go : (b : Bool) (n : ℕ) → cond (not b) (1 + n) 0 ≡ cond b 0 (suc n)
    go true n = refl
    go false n = omega arith

none-changed : (change : Kept → Kept) (c : List ℕ) (ks : List Kept) → ((k : Kept) → In k ks → is_of c k ≡ false) → map (changed_at change c) ks ≡ ks
none-changed change c [] none = refl
none-changed change c (k ∷ ks) none =
    ap (λ (y : Kept). y ∷ map (changed_at change c) ks) (cond-false (is_of c k) (change k) k (none k (inl refl)))
    ∙ ap (λ (ys : List Kept). k ∷ ys) (none-changed change c ks (λ y i. none y (inr i)))

-- is one of each that has its name
pub changed-alone : (change : Kept → Kept) (c : List ℕ) (kept : List Kept) → Apart (names_of kept) → kept_with change c kept ≡ map (changed_at change c) kept
changed-alone change c [] apart = refl
changed-alone change c (k ∷ ks) apart =
    subst (λ (n : ℕ). kept_at change (k ∷ ks) n (slice_get (k ∷ ks) n) ≡ map (changed_at change c) (k ∷ ks)) (sym (place-step c k ks)) (go (is_of c k) refl (changed-alone change c ks apart.1))
  where
    others : is_of c k ≡ true → (y : Kept) → In y ks → is_of c y ≡ false
    others here y i =
        apart-back c y.channel (subst (λ (n : List ℕ). bytes_eq n y.channel ≡ false) (same_bytes k.channel c here) (apart.0 y.channel (In-map (λ (z : Kept). z.channel) y ks i)))

    under : (o : Option Kept) → kept_at change (k ∷ ks) (suc (place_of c ks)) o ≡ k ∷ kept_at change ks (place_of c ks) o
    under None = refl
    under (Some x) = refl

    go : (b : Bool) → is_of c k ≡ b → kept_with change c ks ≡ map (changed_at change c) ks
        → kept_at change (k ∷ ks) (cond b 0 (suc (place_of c ks))) (slice_get (k ∷ ks) (cond b 0 (suc (place_of c ks)))) ≡ cond b (change k) k ∷ map (changed_at change c) ks
    go true here rest = ap (λ (ys : List Kept). change k ∷ ys) (sym (none-changed change c ks (others here)))
    go false here rest = under (kept_of c ks) ∙ ap (λ (ys : List Kept). k ∷ ys) rest
