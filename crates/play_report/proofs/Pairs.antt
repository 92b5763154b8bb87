-- Lists side by side.
use Rattle.std.proofs.Common.{◌≡◌, ◌+◌, ◌<◌, ℕ, List, [], ◌∷◌, ◌++◌, take, length, get_or, inl, inr, sym, subst}
use Rattle.std.specs.Prelude.{reverse}
use Rattle.std.specs.List.{AllByRecursion}
use Rattle.std.proofs.lemmas.List.{take_more, reverse-append}
use Rattle.channel_safety.specs.Journals.{In}
use Rattle.node_guarantees.specs.Promised.{Pairwise}

pairwise-push : {A B : Type 0} (R : A → B → Type 0) (xs : List A) (ys : List B) (x : A) (y : B) → Pairwise R xs ys → R x y → Pairwise R (xs ++ x ∷ []) (ys ++ y ∷ [])
pairwise-push R [] [] x y all r = (r, tt)
pairwise-push R [] (b ∷ ys) x y all r = absurd all
pairwise-push R (a ∷ xs) [] x y all r = absurd all
pairwise-push R (a ∷ xs) (b ∷ ys) x y all r = (all.0, pairwise-push R xs ys x y all.1 r)

-- with one more of each
pub pairwise_more : {A B : Type 0} (R : A → B → Type 0) (xs : List A) (i : ℕ) (d : A) (ys new : List B) (y : B) → i < length xs
    → Pairwise R (take i xs) ys → R (get_or xs i d) y → new ≡ ys ++ y ∷ [] → Pairwise R (take (i + 1) xs) new
pairwise_more R xs i d ys new y l all r is =
    subst (Pairwise R (take (i + 1) xs)) (sym is)
    (subst (λ front. Pairwise R front (ys ++ y ∷ [])) (sym (take_more xs i d l)) (pairwise-push R (take i xs) ys (get_or xs i d) y all r))

-- ---- each of a list, turned

all-append : {A : Type 0} (Q : A → Type 0) (xs ys : List A) → AllByRecursion Q xs → AllByRecursion Q ys → AllByRecursion Q (xs ++ ys)
all-append Q [] ys a b = b
all-append Q (x ∷ xs) ys a b = (a.0, all-append Q xs ys a.1 b)

pub all_reverse : {A : Type 0} (Q : A → Type 0) (xs : List A) → AllByRecursion Q xs → AllByRecursion Q (reverse xs)
all_reverse Q [] a = tt
all_reverse Q (x ∷ xs) a = subst (AllByRecursion Q) (sym (reverse-append (x ∷ []) xs)) (all-append Q (reverse xs) (x ∷ []) (all_reverse Q xs a.1) (a.0, tt))

pub in_all : {A : Type 0} (Q : A → Type 0) (x : A) (xs : List A) → AllByRecursion Q xs → In x xs → Q x
in_all Q x [] all i = absurd i
in_all Q x (y ∷ ys) all (inl e) = subst Q (sym e) all.0
in_all Q x (y ∷ ys) all (inr i) = in_all Q x ys all.1 i
