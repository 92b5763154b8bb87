-- One more element, as at a step of a loop that adds what each gives.
use Rattle.std.proofs.Common.{◌≡◌, ℕ, ◌+◌, ◌<◌, List, [], ◌∷◌, ◌++◌, flat_map, take, get_or, length, refl, sym, ◌∙◌, ap, add-one, take-suc}
use Rattle.std.proofs.lemmas.List.{append_assoc, append-nil}

joined-append : {A B : Type 0} (f : A → List B) (xs ys : List A) → flat_map f (xs ++ ys) ≡ flat_map f xs ++ flat_map f ys
joined-append f [] ys = refl
joined-append f (x ∷ xs) ys = ap (λ z. f x ++ z) (joined-append f xs ys) ∙ sym (append_assoc (f x) (flat_map f xs) (flat_map f ys))

pub joined_step : {A B : Type 0} (f : A → List B) (old : List B) (xs : List A) (i : ℕ) (d : A) → i < length xs
    → old ++ flat_map f (take (i + 1) xs) ≡ (old ++ flat_map f (take i xs)) ++ f (get_or xs i d)
joined_step f old xs i d l =
    let front : take (i + 1) xs ≡ take i xs ++ get_or xs i d ∷ [] = rw add-one (take-suc xs i d l) in
    ap (λ z. old ++ flat_map f z) front
    ∙ (ap (λ z. old ++ z) (joined-append f (take i xs) (get_or xs i d ∷ []) ∙ ap (λ z. flat_map f (take i xs) ++ z) (append-nil (f (get_or xs i d))))
    ∙ sym (append_assoc old (flat_map f (take i xs)) (f (get_or xs i d))))
