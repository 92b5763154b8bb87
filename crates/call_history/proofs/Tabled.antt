-- Finding and changing a row of a table.
use Rattle.std.proofs.Common.{◌≡◌, ℕ, suc, subst, ◌+◌, ◌<◌, ◌≤◌, List, [], ◌∷◌, ◌++◌, Bool, true, false, cond, length, set, get_or, refl, sym, ◌∙◌, ap, arith}
use Rattle.std.specs.Prelude.{not}
use Rattle.std.proofs.lemmas.List.{get_or_push, set_at}
use Rattle.std.specs.List.{position_or_len}
use Rattle.call_history.specs.Tables.{found, changed}

-- the place in a longer table
pub place_step : {X : Type 0} (is : X → Bool) (y : X) (ys : List X) → position_or_len is (y ∷ ys) ≡ cond (is y) 0 (suc (position_or_len is ys))
place_step is y ys = go (is y) (position_or_len is ys)
  where
    go : (b : Bool) (n : ℕ) → cond (not b) (1 + n) 0 ≡ cond b 0 (suc n)
    go true n = refl
    go false n = omega arith

changed_there : {X : Type 0} (is : X → Bool) (change : X → X) (none d : X) (xs : List X) → position_or_len is xs < length xs
    → set xs (position_or_len is xs) (change (get_or xs (position_or_len is xs) d)) ≡ changed is change none xs
changed_there is change none d [] lt = absurd (omega (arith, lt))
changed_there {X = X} is change none d (y ∷ ys) lt =
    subst (λ (n : ℕ). set (y ∷ ys) n (change (get_or (y ∷ ys) n d)) ≡ changed is change none (y ∷ ys)) (sym (place_step is y ys))
    (go (is y) (changed_there is change none d ys) (subst (λ (n : ℕ). n < length (y ∷ ys)) (place_step is y ys) lt))
  where
    go : (b : Bool) → (position_or_len is ys < length ys → set ys (position_or_len is ys) (change (get_or ys (position_or_len is ys) d)) ≡ changed is change none ys)
        → cond b 0 (suc (position_or_len is ys)) < length (y ∷ ys)
        → set (y ∷ ys) (cond b 0 (suc (position_or_len is ys))) (change (get_or (y ∷ ys) (cond b 0 (suc (position_or_len is ys))) d)) ≡ cond b (change y ∷ ys) (y ∷ changed is change none ys)
    go true ih lt = refl
    go false ih lt = ap (λ (zs : List X). y ∷ zs) (ih (omega (arith, lt)))

changed_past : {X : Type 0} (is : X → Bool) (change : X → X) (none : X) (xs : List X) → length xs ≤ position_or_len is xs
    → xs ++ change none ∷ [] ≡ changed is change none xs
changed_past is change none [] le = refl
changed_past {X = X} is change none (y ∷ ys) le =
    go (is y) (changed_past is change none ys) (subst (λ (n : ℕ). length (y ∷ ys) ≤ n) (place_step is y ys) le)
  where
    go : (b : Bool) → (length ys ≤ position_or_len is ys → ys ++ change none ∷ [] ≡ changed is change none ys)
        → length (y ∷ ys) ≤ cond b 0 (suc (position_or_len is ys)) → y ∷ (ys ++ change none ∷ []) ≡ cond b (change y ∷ ys) (y ∷ changed is change none ys)
    go true ih le = absurd (omega (arith, le))
    go false ih le = ap (λ (zs : List X). y ∷ zs) (ih (omega (arith, le)))

found_there : {X : Type 0} (is : X → Bool) (none d : X) (xs : List X) → position_or_len is xs < length xs → get_or xs (position_or_len is xs) d ≡ found is none xs
found_there is none d [] lt = absurd (omega (arith, lt))
found_there is none d (y ∷ ys) lt =
    subst (λ (n : ℕ). get_or (y ∷ ys) n d ≡ found is none (y ∷ ys)) (sym (place_step is y ys))
    (go (is y) (found_there is none d ys) (subst (λ (n : ℕ). n < length (y ∷ ys)) (place_step is y ys) lt))
  where
    go : (b : Bool) → (position_or_len is ys < length ys → get_or ys (position_or_len is ys) d ≡ found is none ys)
        → cond b 0 (suc (position_or_len is ys)) < length (y ∷ ys) → get_or (y ∷ ys) (cond b 0 (suc (position_or_len is ys))) d ≡ cond b y (found is none ys)
    go true ih lt = refl
    go false ih lt = ih (omega (arith, lt))

found_past : {X : Type 0} (is : X → Bool) (none : X) (xs : List X) → length xs ≤ position_or_len is xs → none ≡ found is none xs
found_past is none [] le = refl
found_past is none (y ∷ ys) le =
    go (is y) (found_past is none ys) (subst (λ (n : ℕ). length (y ∷ ys) ≤ n) (place_step is y ys) le)
  where
    go : (b : Bool) → (length ys ≤ position_or_len is ys → none ≡ found is none ys)
        → length (y ∷ ys) ≤ cond b 0 (suc (position_or_len is ys)) → none ≡ cond b y (found is none ys)
    go true ih le = absurd (omega (arith, le))
    go false ih le = ih (omega (arith, le))

-- at a place that is the row's
pub changed_at : {X : Type 0} (is : X → Bool) (change : X → X) (none d : X) (xs : List X) (i : ℕ) → i ≡ position_or_len is xs → i < length xs
    → set xs i (change (get_or xs i d)) ≡ changed is change none xs
changed_at is change none d xs i at lt =
    subst (λ (n : ℕ). set xs n (change (get_or xs n d)) ≡ changed is change none xs) (sym at) (changed_there is change none d xs (subst (λ (n : ℕ). n < length xs) at lt))

pub added_at : {X : Type 0} (is : X → Bool) (change : X → X) (none : X) (xs : List X) (i : ℕ) → i ≡ position_or_len is xs → length xs ≤ i
    → xs ++ change none ∷ [] ≡ changed is change none xs
added_at is change none xs i at le = changed_past is change none xs (subst (λ (n : ℕ). length xs ≤ n) at le)

pub found_at : {X : Type 0} (is : X → Bool) (none d : X) (xs : List X) (i : ℕ) → i ≡ position_or_len is xs → i < length xs → get_or xs i d ≡ found is none xs
found_at is none d xs i at lt = subst (λ (n : ℕ). get_or xs n d ≡ found is none xs) (sym at) (found_there is none d xs (subst (λ (n : ℕ). n < length xs) at lt))

pub none_at : {X : Type 0} (is : X → Bool) (none : X) (xs : List X) (i : ℕ) → i ≡ position_or_len is xs → length xs ≤ i → none ≡ found is none xs
none_at is none xs i at le = found_past is none xs (subst (λ (n : ℕ). length xs ≤ n) at le)

-- the changed row, and the others
pub found_same : {X : Type 0} (is : X → Bool) (change : X → X) (none : X) (xs : List X)
    → ((x : X) → is x ≡ true → is (change x) ≡ true) → is (change none) ≡ true → found is none (changed is change none xs) ≡ change (found is none xs)
found_same is change none [] keeps new = ap (λ b. cond b (change none) none) new
found_same is change none (y ∷ ys) keeps new = go (is y) refl (found_same is change none ys keeps new)
  where
    go : (b : Bool) → is y ≡ b → found is none (changed is change none ys) ≡ change (found is none ys)
        → found is none (cond b (change y ∷ ys) (y ∷ changed is change none ys)) ≡ change (cond b y (found is none ys))
    go true e ih = ap (λ b. cond b (change y) (found is none ys)) (keeps y e)
    go false e ih = ap (λ b. cond b y (found is none (changed is change none ys))) e ∙ ih

pub found_other : {X : Type 0} (is other : X → Bool) (change : X → X) (none missing : X) (xs : List X)
    → ((x : X) → is x ≡ true → other x ≡ false) → ((x : X) → is x ≡ true → other (change x) ≡ false) → other (change none) ≡ false
    → found other missing (changed is change none xs) ≡ found other missing xs
found_other is other change none missing [] apart keeps new = ap (λ b. cond b (change none) missing) new
found_other is other change none missing (y ∷ ys) apart keeps new = go (is y) refl (found_other is other change none missing ys apart keeps new)
  where
    go : (b : Bool) → is y ≡ b → found other missing (changed is change none ys) ≡ found other missing ys
        → found other missing (cond b (change y ∷ ys) (y ∷ changed is change none ys)) ≡ cond (other y) y (found other missing ys)
    go true e ih = ap (λ b. cond b (change y) (found other missing ys)) (keeps y e) ∙ sym (ap (λ b. cond b y (found other missing ys)) (apart y e))
    go false e ih = ap (λ o. cond (other y) y o) ih

-- the change of what is found stands at the place
pub change_there : {X : Type 0} (is : X → Bool) (change : X → X) (none : X) (xs : List X) (i : ℕ) → i ≡ position_or_len is xs → i < length xs
    → set xs i (change (found is none xs)) ≡ changed is change none xs
change_there {X = X} is change none xs i at lt =
    ap (λ (x : X). set xs i (change x)) (sym (found_at is none none xs i at lt)) ∙ changed_at is change none none xs i at lt

pub change_added : {X : Type 0} (is : X → Bool) (change : X → X) (none : X) (xs : List X) (i : ℕ) → i ≡ position_or_len is xs → length xs ≡ i
    → set (xs ++ none ∷ []) i (change (found is none xs)) ≡ changed is change none xs
change_added {X = X} is change none xs i at end =
    set_at xs none [] (change (found is none xs)) i end
    ∙ ap (λ (x : X). xs ++ change x ∷ []) (sym (none_at is none xs i at (omega (arith, end))))
    ∙ added_at is change none xs i at (omega (arith, end))

pub found_added : {X : Type 0} (is : X → Bool) (none d : X) (xs : List X) (i : ℕ) → i ≡ position_or_len is xs → length xs ≡ i
    → get_or (xs ++ none ∷ []) i d ≡ found is none xs
found_added is none d xs i at end = get_or_push xs none d i end ∙ none_at is none xs i at (omega (arith, end))

-- a change is known by what it makes of the row that is found
pub changed_same : {X : Type 0} (is : X → Bool) (f g : X → X) (none : X) (xs : List X) → f (found is none xs) ≡ g (found is none xs)
    → changed is f none xs ≡ changed is g none xs
changed_same {X = X} is f g none [] e = ap (λ (x : X). x ∷ []) e
changed_same {X = X} is f g none (y ∷ ys) e = go (is y) (changed_same is f g none ys) e
  where
    go : (b : Bool) → (f (found is none ys) ≡ g (found is none ys) → changed is f none ys ≡ changed is g none ys)
        → f (cond b y (found is none ys)) ≡ g (cond b y (found is none ys))
        → cond b (f y ∷ ys) (y ∷ changed is f none ys) ≡ cond b (g y ∷ ys) (y ∷ changed is g none ys)
    go true rest h = ap (λ (x : X). x ∷ ys) h
    go false rest h = ap (λ (zs : List X). y ∷ zs) (rest h)
