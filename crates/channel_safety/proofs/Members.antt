-- Members of lists: of joined, mapped, reversed and shorter ones.
use Rattle.std.proofs.Common.{◌≡◌, ℕ, zero, suc, ◌<◌, List, [], ◌∷◌, ◌++◌, map, reverse, take, drop, ◌⊎◌, inl, inr, length, refl, sym, ap, subst, arith}
use Rattle.std.specs.Prelude.{flat_map, Contains}
use Rattle.std.specs.List.{AllByRecursion}
use Rattle.std.proofs.lemmas.List.{reverse-append}
use Rattle.channel_safety.specs.Journals.{In}

pub In-append_right : {A : Type 0} (x : A) (xs ys : List A) → In x ys → In x (xs ++ ys)
In-append_right x [] ys i = i
In-append_right x (z ∷ xs) ys i = inr (In-append_right x xs ys i)

pub In-append_left : {A : Type 0} (x : A) (xs ys : List A) → In x xs → In x (xs ++ ys)
In-append_left x [] ys i = absurd i
In-append_left x (z ∷ xs) ys (inl e) = inl e
In-append_left x (z ∷ xs) ys (inr i) = inr (In-append_left x xs ys i)

pub In-append_cases : {A : Type 0} (x : A) (xs ys : List A) → In x (xs ++ ys) → In x xs ⊎ In x ys
In-append_cases x [] ys i = inr i
In-append_cases x (z ∷ xs) ys (inl e) = inl (inl e)
In-append_cases x (z ∷ xs) ys (inr i) = go (In-append_cases x xs ys i)
  where
    go : In x xs ⊎ In x ys → In x (z ∷ xs) ⊎ In x ys
    go (inl j) = inl (inr j)
    go (inr j) = inr j

pub In-take : {A : Type 0} (x : A) (n : ℕ) (xs : List A) → In x (take n xs) → In x xs
In-take x zero xs i = absurd i
In-take x (suc n) [] i = absurd i
In-take x (suc n) (y ∷ ys) (inl e) = inl e
In-take x (suc n) (y ∷ ys) (inr i) = inr (In-take x n ys i)

pub In-drop : {A : Type 0} (x : A) (d : ℕ) (xs : List A) → In x (drop d xs) → In x xs
In-drop x zero xs i = i
In-drop x (suc d) [] i = absurd i
In-drop x (suc d) (y ∷ ys) i = inr (In-drop x d ys i)

pub In-reverse : {A : Type 0} (x : A) (xs : List A) → In x (reverse xs) → In x xs
In-reverse x [] i = i
In-reverse {A} x (y ∷ ys) i = go (In-append_cases x (reverse ys) (y ∷ []) (subst (In x) (reverse-append (y ∷ []) ys) i)) (In-reverse x ys)
  where
    go : In x (reverse ys) ⊎ In x (y ∷ []) → (In x (reverse ys) → In x ys) → In x (y ∷ ys)
    go (inl j) later = inr (later j)
    go (inr (inl e)) later = inl e
    go (inr (inr j)) later = absurd j

pub In-map : {A B : Type 0} (g : A → B) (x : A) (xs : List A) → In x xs → In (g x) (map g xs)
In-map g x [] i = absurd i
In-map g x (y ∷ ys) (inl e) = inl (ap g e)
In-map g x (y ∷ ys) (inr i) = inr (In-map g x ys i)

pub record Mapped {A B : Type 0} (g : A → B) (y : B) (xs : List A) : Type 0 where
  pub from : A
  pub there : In from xs
  pub is : y ≡ g from

pub mapped : {A B : Type 0} (g : A → B) (y : B) (xs : List A) → In y (map g xs) → Mapped g y xs
mapped g y [] i = absurd i
mapped g y (x ∷ xs) (inl e) = record { from = x; there = inl refl; is = e }
mapped g y (x ∷ xs) (inr i) = let m = mapped g y xs i in record { from = m.from; there = inr m.there; is = m.is }

pub In-flat_map : {A B : Type 0} (f : A → List B) (b : B) (x : A) (xs : List A) → In x xs → In b (f x) → In b (flat_map f xs)
In-flat_map f b x [] i j = absurd i
In-flat_map f b x (y ∷ xs) (inl e) j = In-append_left b (f y) (flat_map f xs) (subst (λ z. In b (f z)) e j)
In-flat_map f b x (y ∷ xs) (inr i) j = In-append_right b (f y) (flat_map f xs) (In-flat_map f b x xs i j)

pub record Joined {A B : Type 0} (f : A → List B) (b : B) (xs : List A) : Type 0 where
  pub from : A
  pub there : In from xs
  pub is : In b (f from)

pub joined : {A B : Type 0} (f : A → List B) (b : B) (xs : List A) → In b (flat_map f xs) → Joined f b xs
joined f b [] i = absurd i
joined f b (x ∷ xs) i = go (In-append_cases b (f x) (flat_map f xs) i) (joined f b xs)
  where
    go : In b (f x) ⊎ In b (flat_map f xs) → (In b (flat_map f xs) → Joined f b xs) → Joined f b (x ∷ xs)
    go (inl j) later = record { from = x; there = inl refl; is = j }
    go (inr j) later = let a = later j in record { from = a.from; there = inr a.there; is = a.is }

-- ---- the same by places

pub contains : {A : Type 0} (x : A) (xs : List A) → In x xs → Contains xs x
contains x [] i = absurd i
contains x (y ∷ xs) (inl e) = (0, omega arith, sym e)
contains x (y ∷ xs) (inr i) = let c = contains x xs i in (suc c.0, (let l : c.0 < length xs = c.1 in omega arith), c.2)

pub contained : {A : Type 0} (x : A) (xs : List A) → Contains xs x → In x xs
contained x [] (k, l, e) = absurd (omega arith)
contained x (y ∷ ys) (zero, l, e) = inl (sym e)
contained x (y ∷ ys) (suc k, l, e) = inr (contained x ys (k, omega arith, e))

-- ---- what holds of all

pub all-in : {A : Type 0} (P : A → Type 0) (x : A) (xs : List A) → AllByRecursion P xs → In x xs → P x
all-in P x [] a i = absurd i
all-in P x (y ∷ ys) a (inl e) = subst P (sym e) a.0
all-in P x (y ∷ ys) a (inr i) = all-in P x ys a.1 i
