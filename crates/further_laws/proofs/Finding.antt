-- What is there is found, and lists with one more.
use Rattle.std.proofs.Common.{◌≡◌, ℕ, List, [], ◌∷◌, ◌++◌, Bool, true, false, cond, Option, Some, None, refl, sym, ◌∙◌, ap}
use Rattle.std.proofs.lemmas.Slice.Eq.{bytes_eq-Decides}
use Rattle.std.specs.Prelude.{◌&&◌, ◌||◌, IsSome, is_some, map}
use Rattle.std.specs.List.{find, list_any}
use Rattle.std.specs.Option.{option_map}
use Rattle.std.specs.Str.{bytes_eq}
use Rattle.step_meanings.specs.People.{◌>>=◌}

pub first : (a b : Bool) → (a && b) ≡ true → a ≡ true
first true b e = refl
first false b e = absurd (cc)

pub second : (a b : Bool) → (a && b) ≡ true → b ≡ true
second true b e = e
second false b e = absurd (cc)

pub or_head : (a b : Bool) → (a || b) ≡ true → a ≡ false → b ≡ true
or_head true b e h = absurd (cc)
or_head false b e h = e

pub same_bytes : (a b : List ℕ) → bytes_eq a b ≡ true → a ≡ b
same_bytes a b e = (bytes_eq-Decides a b).0 e

pub bytes_themselves : (a : List ℕ) → bytes_eq a a ≡ true
bytes_themselves a = (bytes_eq-Decides a a).1 refl

-- ---- what is there is found

pub mapped_some : {X Y : Type 0} (f : X → Y) (o : Option X) → IsSome o → IsSome (option_map f o)
mapped_some f None h = h
mapped_some f (Some x) h = refl

pub named_some : {X : Type 0} (name : X → List ℕ) (xs : List X) (text : List ℕ) → list_any (λ s. bytes_eq s text) (map name xs) ≡ true
    → IsSome (find (λ x. bytes_eq (name x) text) xs)
named_some name [] text h = absurd (cc)
named_some name (x ∷ xs) text h = by (bytes_eq (name x) text) refl (λ more. named_some name xs text more)
  where
    by : (b : Bool) → bytes_eq (name x) text ≡ b
        → (list_any (λ s. bytes_eq s text) (map name xs) ≡ true → IsSome (find (λ x. bytes_eq (name x) text) xs))
        → IsSome (cond b (Some x) (find (λ x. bytes_eq (name x) text) xs))
    by true e later = refl
    by false e later = later (or_head (bytes_eq (name x) text) (list_any (λ s. bytes_eq s text) (map name xs)) h e)

pub any_mapped : {X : Type 0} (name : X → List ℕ) (xs : List X) (text : List ℕ) → list_any (λ x. bytes_eq (name x) text) xs ≡ list_any (λ s. bytes_eq s text) (map name xs)
any_mapped name [] text = refl
any_mapped name (x ∷ xs) text = ap (λ b. bytes_eq (name x) text || b) (any_mapped name xs text)

-- ---- two tests

pub rest_false : (a b : Bool) → (a || b) ≡ false → b ≡ false
rest_false true b t = absurd (cc)
rest_false false b t = t

pub head_false : (a b : Bool) → (a || b) ≡ false → a ≡ false
head_false true b t = absurd (cc)
head_false false b t = refl

-- ---- one after another

pub some_after : {A B : Type 0} (o : Option A) (f : A → Option B) → IsSome o → ((x : A) → o ≡ Some x → IsSome (f x)) → IsSome (o >>= f)
some_after None f h g = absurd (cc)
some_after (Some x) f h g = g x refl

-- ---- one more

pub names_push : {X : Type 0} (name : X → List ℕ) (xs : List X) (x : X) → map name (xs ++ x ∷ []) ≡ map name xs ++ name x ∷ []
names_push name [] x = refl
names_push name (y ∷ xs) x = ap (λ l. name y ∷ l) (names_push name xs x)

pub both_push : {X Y : Type 0} (f : X → List ℕ) (g : Y → List ℕ) (xs : List X) (ys : List Y) (x : X) (y : Y) → map f xs ≡ map g ys → f x ≡ g y
    → map f (xs ++ x ∷ []) ≡ map g (ys ++ y ∷ [])
both_push f g xs ys x y e h = names_push f xs x ∙ (λ i. e i ++ h i ∷ []) ∙ sym (names_push g ys y)

pub any_push : {X : Type 0} (test : X → Bool) (xs : List X) (x : X) → list_any test xs ≡ false → test x ≡ false → list_any test (xs ++ x ∷ []) ≡ false
any_push test [] x e h = ap (λ b. b || false) h
any_push test (y ∷ xs) x e h = by (test y) e (λ more. any_push test xs x more h)
  where
    by : (b : Bool) → (b || list_any test xs) ≡ false → (list_any test xs ≡ false → list_any test (xs ++ x ∷ []) ≡ false) → (b || list_any test (xs ++ x ∷ [])) ≡ false
    by true t later = absurd (cc)
    by false t later = later t

-- no element passes the test, and neither does the one after them
pub none_more : {X : Type 0} (test : X → Bool) (xs : List X) (x : X) → list_any test (xs ++ x ∷ []) ≡ false → (list_any test xs ≡ false) × (test x ≡ false)
none_more test [] x e = (refl, head_false (test x) false e)
none_more test (y ∷ xs) x e =
    let r = none_more test xs x (rest_false (test y) (list_any test (xs ++ x ∷ [])) e) in
    (neither (test y) (list_any test xs) (head_false (test y) (list_any test (xs ++ x ∷ [])) e) r.0, r.1)
  where
    neither : (a b : Bool) → a ≡ false → b ≡ false → (a || b) ≡ false
    neither true b t u = absurd (cc)
    neither false b t u = u

-- one of them passes, if it isn't the last
pub any_before : {X : Type 0} (test : X → Bool) (xs : List X) (x : X) → list_any test (xs ++ x ∷ []) ≡ true → test x ≡ false → list_any test xs ≡ true
any_before test [] x e h = absurd (apart (test x) e h)
  where
    apart : (b : Bool) → (b || false) ≡ true → b ≡ false → ⊥
    apart true t u = cc
    apart false t u = cc
any_before test (y ∷ xs) x e h = by (test y) e (λ more. any_before test xs x more h)
  where
    by : (b : Bool) → (b || list_any test (xs ++ x ∷ [])) ≡ true → (list_any test (xs ++ x ∷ []) ≡ true → list_any test xs ≡ true) → (b || list_any test xs) ≡ true
    by true t later = refl
    by false t later = later t

-- what is found stays found after one more
pub find_push : {X : Type 0} (test : X → Bool) (xs : List X) (x : X) → IsSome (find test xs) → IsSome (find test (xs ++ x ∷ []))
find_push test [] x h = absurd (cc)
find_push test (y ∷ xs) x h = by (test y) h (λ more. find_push test xs x more)
  where
    by : (b : Bool) → IsSome (cond b (Some y) (find test xs)) → (IsSome (find test xs) → IsSome (find test (xs ++ x ∷ []))) → IsSome (cond b (Some y) (find test (xs ++ x ∷ [])))
    by true t later = refl
    by false t later = later t

pub find_last : {X : Type 0} (test : X → Bool) (xs : List X) (x : X) → test x ≡ true → IsSome (find test (xs ++ x ∷ []))
find_last test [] x e = ap (λ b. is_some (cond b (Some x) None)) e
find_last test (y ∷ xs) x e = by (test y) (find_last test xs x e)
  where
    by : (b : Bool) → IsSome (find test (xs ++ x ∷ [])) → IsSome (cond b (Some y) (find test (xs ++ x ∷ [])))
    by true later = refl
    by false later = later
