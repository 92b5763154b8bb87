-- Lists of which no element meets a later one, and what holds of each element, one more at the end.
use Rattle.std.proofs.Common.{◌≡◌, Bool, true, false, ◌||◌, List, [], ◌∷◌, ◌++◌, refl, sym, ◌∙◌}
use Rattle.std.specs.List.{AllByRecursion, list_any}
use Rattle.std.proofs.lemmas.List.Folds.{list_any-append}
use Rattle.channel_values.specs.Outcomes.{AreApart}

or_false : (a b : Bool) → (a || b) ≡ false → (a ≡ false) × (b ≡ false)
or_false true b e = absurd cc
or_false false b e = (refl, e)

both_false : (a b : Bool) → a ≡ false → b ≡ false → (a || b) ≡ false
both_false true b e f = absurd cc
both_false false b e f = f

pub AreApart-push : {X : Type 0} (meets : X → X → Bool) (xs : List X) (y : X) → AreApart meets xs → list_any (λ x. meets x y) xs ≡ false → AreApart meets (xs ++ y ∷ [])
AreApart-push meets [] y h e = (refl, tt)
AreApart-push meets (x ∷ xs) y h e =
    let p = or_false (meets x y) (list_any (λ z. meets z y) xs) e in
    (list_any-append (meets x) xs (y ∷ []) ∙ both_false (list_any (meets x) xs) (meets x y || false) h.0 (both_false (meets x y) false p.0 refl), AreApart-push meets xs y h.1 p.1)

-- the last of a list that is apart meets none before it
pub AreApart-last : {X : Type 0} (meets : X → X → Bool) (xs : List X) (y : X) → AreApart meets (xs ++ y ∷ []) → list_any (λ x. meets x y) xs ≡ false
AreApart-last meets [] y h = refl
AreApart-last meets (x ∷ xs) y h =
    let p = or_false (list_any (meets x) xs) (meets x y || false) (sym (list_any-append (meets x) xs (y ∷ [])) ∙ h.0) in
    let q = or_false (meets x y) false p.1 in
    both_false (meets x y) (list_any (λ z. meets z y) xs) q.0 (AreApart-last meets xs y h.1)

pub AreApart-front : {X : Type 0} (meets : X → X → Bool) (xs ys : List X) → AreApart meets (xs ++ ys) → AreApart meets xs
AreApart-front meets [] ys h = tt
AreApart-front meets (x ∷ xs) ys h =
    let p = or_false (list_any (meets x) xs) (list_any (meets x) ys) (sym (list_any-append (meets x) xs ys) ∙ h.0) in
    (p.0, AreApart-front meets xs ys h.1)

pub Each-push : {X : Type 0} (P : X → Type 0) (xs : List X) (y : X) → AllByRecursion P xs → P y → AllByRecursion P (xs ++ y ∷ [])
Each-push P [] y h p = (p, tt)
Each-push P (x ∷ xs) y h p = (h.0, Each-push P xs y h.1 p)

pub Each-front : {X : Type 0} (P : X → Type 0) (xs ys : List X) → AllByRecursion P (xs ++ ys) → AllByRecursion P xs
Each-front P [] ys h = tt
Each-front P (x ∷ xs) ys h = (h.0, Each-front P xs ys h.1)

pub Each-last : {X : Type 0} (P : X → Type 0) (xs : List X) (y : X) → AllByRecursion P (xs ++ y ∷ []) → P y
Each-last P [] y h = h.0
Each-last P (x ∷ xs) y h = Each-last P xs y h.1
