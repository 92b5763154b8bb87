-- The first place at which a test passes, and tables that say of each name which place it has.
use Rattle.std.proofs.Common.{◌≡◌, ℕ, zero, suc, ◌+◌, ◌<◌, ◌≤◌, List, [], ◌∷◌, ◌++◌, Bool, true, false, cond, not, length, set, get_or, Some, None, refl, sym, ◌∙◌, ap, arith}
use Rattle.std.specs.Prelude.{Option, nat_lt, unwrap_or}
use Rattle.std.specs.List.{position, position_or_len}
use Rattle.std.specs.Map.{lookup}
use Rattle.std.specs.Option.{option_map, option_or}
use Rattle.std.specs.Str.{bytes_eq}
use Rattle.call_history.specs.Tables.{is_named, ArePlaced}
use Rattle.call_history.proofs.Names.{same_bytes}
use Rattle.call_history.proofs.Tabled.{place_step}

-- ---- the first place at which a test passes

-- of a longer list
position_step : {X : Type 0} (is : X → Bool) (y : X) (ys : List X) → position is (y ∷ ys) ≡ cond (is y) (Some 0) (option_map suc (position is ys))
position_step is y ys =
    ap (λ (n : ℕ). cond (nat_lt n (suc (length ys))) (Some n) None) (place_step is y ys) ∙ go (is y) (position_or_len is ys) (length ys)
  where
    go : (b : Bool) (n k : ℕ)
        → cond (nat_lt (cond b 0 (suc n)) (suc k)) (Some (cond b 0 (suc n))) None
        ≡ cond b (Some 0) (option_map suc (cond (nat_lt n k) (Some n) None))
    go true n k = ap (λ (c : Bool). cond c (Some 0) None) first
      where
        first : nat_lt 0 (suc k) ≡ true
        first = grind arith
    go false n k = ap (λ (c : Bool). cond c (Some (suc n)) None) less ∙ by (nat_lt n k)
      where
        less : nat_lt (suc n) (suc k) ≡ nat_lt n k
        less = grind arith

        by : (c : Bool) → cond c (Some (suc n)) None ≡ option_map suc (cond c (Some n) None)
        by true = refl
        by false = refl

-- with one more at the end
position_push : {X : Type 0} (is : X → Bool) (xs : List X) (x : X)
    → position is (xs ++ x ∷ []) ≡ option_or (position is xs) (cond (is x) (Some (length xs)) None)
position_push is [] x = position_step is x []
position_push is (y ∷ ys) x =
    position_step is y (ys ++ x ∷ [])
    ∙ go (is y) (position is (ys ++ x ∷ [])) (position is ys) (is x) (position_push is ys x)
    ∙ sym (ap (λ o. option_or o (cond (is x) (Some (suc (length ys))) None)) (position_step is y ys))
  where
    go : (b : Bool) (after before : Option ℕ) (last : Bool) → after ≡ option_or before (cond last (Some (length ys)) None)
        → cond b (Some 0) (option_map suc after)
        ≡ option_or (cond b (Some 0) (option_map suc before)) (cond last (Some (suc (length ys))) None)
    go true after before last ih = refl
    go false after (Some n) last ih = ap (option_map suc) ih
    go false after None true ih = ap (option_map suc) ih
    go false after None false ih = ap (option_map suc) ih

-- with another that is like the one that stood there
position_set : {X : Type 0} (is : X → Bool) (xs : List X) (i : ℕ) (x : X) → is x ≡ is (get_or xs i x) → position is (set xs i x) ≡ position is xs
position_set is [] i x same = refl
position_set is (y ∷ ys) zero x same =
    position_step is x ys ∙ ap (λ b. cond b (Some 0) (option_map suc (position is ys))) same ∙ sym (position_step is y ys)
position_set is (y ∷ ys) (suc i) x same =
    position_step is y (set ys i x) ∙ ap (λ o. cond (is y) (Some 0) (option_map suc o)) (position_set is ys i x same) ∙ sym (position_step is y ys)

-- a place that is found is the first one, and within
pub position_some : {X : Type 0} (is : X → Bool) (xs : List X) (i : ℕ) → position is xs ≡ Some i → (i ≡ position_or_len is xs) × (i < length xs)
position_some {X = X} is xs i e = go (nat_lt (position_or_len is xs) (length xs)) refl e
  where
    go : (b : Bool) → nat_lt (position_or_len is xs) (length xs) ≡ b → cond b (Some (position_or_len is xs)) None ≡ Some i
        → (i ≡ position_or_len is xs) × (i < length xs)
    go true lt same = let at : i ≡ position_or_len is xs = ap (λ o. unwrap_or o i) (sym same) in (at, grind (arith, lt, at))
    go false ge same = absurd (cc)

pub position_none : {X : Type 0} (is : X → Bool) (xs : List X) → position is xs ≡ None → length xs ≤ position_or_len is xs
position_none {X = X} is xs e = go (nat_lt (position_or_len is xs) (length xs)) refl e
  where
    go : (b : Bool) → nat_lt (position_or_len is xs) (length xs) ≡ b → cond b (Some (position_or_len is xs)) None ≡ None
        → length xs ≤ position_or_len is xs
    go true lt same = absurd (cc)
    go false ge same = grind (arith, ge)

-- no place is past the end
within : {X : Type 0} (is : X → Bool) (xs : List X) → position_or_len is xs ≤ length xs
within is [] = omega arith
within is (y ∷ ys) = by (is y) (within is ys)
  where
    by : (b : Bool) → position_or_len is ys ≤ length ys → cond (not b) (1 + position_or_len is ys) 0 ≤ suc (length ys)
    by true le = omega arith
    by false le = omega (arith, le)

pub at_end : {X : Type 0} (is : X → Bool) (xs : List X) (i : ℕ) → position is xs ≡ None → length xs ≡ i → i ≡ position_or_len is xs
at_end is xs i e end = omega (arith, end, position_none is xs e, within is xs)

-- ---- a table of names: of each name it has the place of the first row of that name

-- with a row of a new name, which has the last place
pub placed_new : {X : Type 0} (name_of : X → List ℕ) (before after : List (List ℕ × ℕ)) (rows : List X) (row : X)
    → ArePlaced name_of before rows → lookup (bytes_eq (name_of row)) before ≡ None
    → ((name : List ℕ) → lookup (bytes_eq name) after ≡ cond (bytes_eq (name_of row) name) (Some (length rows)) (lookup (bytes_eq name) before))
    → ArePlaced name_of after (rows ++ row ∷ [])
placed_new name_of before after rows row placed new is c =
    is c ∙ go (bytes_eq (name_of row) c) refl ∙ sym (position_push (is_named name_of c) rows row)
  where
    go : (b : Bool) → bytes_eq (name_of row) c ≡ b
        → cond b (Some (length rows)) (lookup (bytes_eq c) before)
        ≡ option_or (position (is_named name_of c) rows) (cond b (Some (length rows)) None)
    go true e =
        ap (λ o. option_or o (Some (length rows)))
        (sym new ∙ ap (λ (n : List ℕ). lookup (bytes_eq n) before) (same_bytes (name_of row) c e) ∙ placed c)
    go false e = placed c ∙ by (position (is_named name_of c) rows)
      where
        by : (o : Option ℕ) → o ≡ option_or o None
        by (Some i) = refl
        by None = refl

-- with a row of a name that has a place, of which the first row is still meant
pub placed_again : {X : Type 0} (name_of : X → List ℕ) (places : List (List ℕ × ℕ)) (rows : List X) (row : X) (i : ℕ)
    → ArePlaced name_of places rows → lookup (bytes_eq (name_of row)) places ≡ Some i → ArePlaced name_of places (rows ++ row ∷ [])
placed_again name_of places rows row i placed there c =
    placed c ∙ go (bytes_eq (name_of row) c) refl ∙ sym (position_push (is_named name_of c) rows row)
  where
    go : (b : Bool) → bytes_eq (name_of row) c ≡ b
        → position (is_named name_of c) rows ≡ option_or (position (is_named name_of c) rows) (cond b (Some (length rows)) None)
    go true e =
        let at : position (is_named name_of c) rows ≡ Some i =
        sym (placed c) ∙ ap (λ (n : List ℕ). lookup (bytes_eq n) places) (sym (same_bytes (name_of row) c e)) ∙ there in
        at ∙ sym (ap (λ o. option_or o (Some (length rows))) at)
    go false e = by (position (is_named name_of c) rows)
      where
        by : (o : Option ℕ) → o ≡ option_or o None
        by (Some i) = refl
        by None = refl

-- with a row in place of another of the same name
pub placed_set : {X : Type 0} (name_of : X → List ℕ) (places : List (List ℕ × ℕ)) (rows : List X) (i : ℕ) (row : X)
    → ArePlaced name_of places rows → name_of (get_or rows i row) ≡ name_of row → ArePlaced name_of places (set rows i row)
placed_set name_of places rows i row placed same c =
    placed c ∙ sym (position_set (is_named name_of c) rows i row (ap (λ (n : List ℕ). bytes_eq n c) (sym same)))
