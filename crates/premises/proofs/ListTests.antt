-- Tests of the members of lists.
use Rattle.std.proofs.Common.{◌≡◌, Bool, true, false, not, ◌||◌, List, [], ◌∷◌, inl, inr, refl, sym, ◌∙◌, ap, true≢false}
use Rattle.std.specs.List.{list_any, list_all}
use Rattle.channel_safety.specs.Journals.{In}
use Rattle.channel_safety.proofs.Tests.{and-left, and-right, and-both}

pub never : {A : Type 0} → false ≡ true → A
never h = absurd (true≢false (sym h))

pub record Found {A : Type 0} (p : A → Bool) (xs : List A) : Type 0 where
  pub item : A
  pub there : In item xs
  pub passes : p item ≡ true

pub found : {A : Type 0} (p : A → Bool) (xs : List A) → list_any p xs ≡ true → Found p xs
found p [] h = never h
found p (x ∷ xs) h = go (p x) refl h (found p xs)
  where
    go : (b : Bool) → p x ≡ b → (b || list_any p xs) ≡ true → (list_any p xs ≡ true → Found p xs) → Found p (x ∷ xs)
    go true e h later = record { item = x; there = inl refl; passes = e }
    go false e h later = let f = later h in record { item = f.item; there = inr f.there; passes = f.passes }

pub or-first : (a b : Bool) → a ≡ true → (a || b) ≡ true
or-first true b h = refl
or-first false b h = never h

pub or-second : (a b : Bool) → b ≡ true → (a || b) ≡ true
or-second true b h = refl
or-second false b h = h

pub any-in : {A : Type 0} (p : A → Bool) (xs : List A) (x : A) → In x xs → p x ≡ true → list_any p xs ≡ true
any-in p [] x i h = absurd i
any-in p (y ∷ ys) x (inl e) h = or-first (p y) (list_any p ys) (ap p (sym e) ∙ h)
any-in p (y ∷ ys) x (inr i) h = or-second (p y) (list_any p ys) (any-in p ys x i h)

pub all-pass : {A : Type 0} (p : A → Bool) (xs : List A) (x : A) → list_all p xs ≡ true → In x xs → p x ≡ true
all-pass p [] x h i = absurd i
all-pass p (y ∷ ys) x h (inl e) = ap p e ∙ and-left (p y) (list_all p ys) h
all-pass p (y ∷ ys) x h (inr i) = all-pass p ys x (and-right (p y) (list_all p ys) h) i

pub pass-all : {A : Type 0} (p : A → Bool) (xs : List A) → ((x : A) → In x xs → p x ≡ true) → list_all p xs ≡ true
pass-all p [] h = refl
pass-all p (y ∷ ys) h = and-both (p y) (list_all p ys) (h y (inl refl)) (pass-all p ys (λ x i. h x (inr i)))

-- one or the other
pub own-if : (v b : Bool) → (not v || b) ≡ true → v ≡ true → b ≡ true
own-if true b h e = h
own-if false b h e = never e

pub if-own : (v b : Bool) → (v ≡ true → b ≡ true) → (not v || b) ≡ true
if-own true b f = f refl
if-own false b f = refl
