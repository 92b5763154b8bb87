-- No holder goes.
use Rattle.std.proofs.Common.{◌≡◌, ◌<◌, ◌==◌, ℕ, zero, suc, true≢false, eq-eqb, cond, List, [], ◌∷◌, ◌++◌, length, get_or, set, Bool, true, false, Option, Some, None, position, refl, sym, ◌∙◌, ap, subst, arith, Contains}
use Rattle.std.specs.Str.{bytes_eq}
use Rattle.std.specs.List.{list_any}
use Rattle.indexmap.specs.IndexSet.{insert_key}
use Rattle.std.proofs.lemmas.Bool.{eqb-true}
use Rattle.std.proofs.lemmas.List.{get_or-set_same, get_or-set_other}
use Rattle.std.proofs.lemmas.List.Elements.{Contains-append_left, Contains-push}
use Rattle.watchtower.specs.Holders.{places_at, holders_of, KeepsHolders}
use Rattle.watchtower.proofs.Places.{found_at, stays_found}

pub keeps_same : (channels places : List (List ℕ)) → KeepsHolders channels places channels places
keeps_same channels places channel place has = has

pub keeps_more : (c p c' p' c'' p'' : List (List ℕ)) → KeepsHolders c p c' p' → KeepsHolders c' p' c'' p'' → KeepsHolders c p c'' p''
keeps_more c p c' p' c'' p'' first second channel place has = second channel place (first channel place has)

nothing_in : {A : Type 1} (place : ℕ) → Contains [] place → A
nothing_in place has = let lt = has.1 in absurd (omega (arith, lt))

-- a client that is found at an index is found by other lists too
moved : (channels places channels' places' : List (List ℕ)) (channel : List ℕ) (place : ℕ)
    → ((i : ℕ) → position (bytes_eq channel) channels ≡ Some i → position (bytes_eq channel) channels' ≡ Some i)
    → ((i : ℕ) → i < length channels → Contains (get_or places i []) place → Contains (get_or places' i []) place)
    → Contains (holders_of channels places channel) place → Contains (holders_of channels' places' channel) place
moved channels places channels' places' channel place found same has = go (position (bytes_eq channel) channels) refl has
  where
    go : (o : Option ℕ) → position (bytes_eq channel) channels ≡ o → Contains (places_at places o) place → Contains (holders_of channels' places' channel) place
    go None at has = let lt = has.1 in absurd (omega (arith, lt))
    go (Some i) at has =
        subst (λ o. Contains (places_at places' o) place) (sym (found i at))
        (same i (found_at (bytes_eq channel) channels i at).1 has)

within : (xs : List (List ℕ)) (y : List ℕ) (i : ℕ) → i < length xs → get_or (xs ++ y ∷ []) i [] ≡ get_or xs i []
within [] y i lt = absurd (omega (arith, lt))
within (x ∷ xs) y zero lt = refl
within (x ∷ xs) y (suc i) lt = within xs y i (omega (arith, lt))

-- with a channel more
pub keeps_new : (channels places : List (List ℕ)) (new : List ℕ) → length places ≡ length channels
    → KeepsHolders channels places (channels ++ new ∷ []) (places ++ [] ∷ [])
keeps_new channels places new paired channel place has =
    moved channels places (channels ++ new ∷ []) (places ++ [] ∷ []) channel place (λ i at. stays_found (bytes_eq channel) channels (new ∷ []) i at)
    (λ i lt there. subst (λ l. Contains l place) (sym (within places [] i (omega (arith, lt, paired)))) there) has

-- with a place more of a channel
pub keeps_put : (channels places : List (List ℕ)) (index new : ℕ) → index < length places
    → KeepsHolders channels places channels (set places index (get_or places index [] ++ new ∷ []))
keeps_put channels places index new lt channel place has =
    moved channels places channels (set places index (get_or places index [] ++ new ∷ [])) channel place (λ i at. at) (λ i below there. go i (i == index) refl there) has
  where
    go : (i : ℕ) (b : Bool) → (i == index) ≡ b → Contains (get_or places i []) place → Contains (get_or (set places index (get_or places index [] ++ new ∷ [])) i []) place
    go i true q there =
        let same : i ≡ index = eqb-true i index q in
        subst (λ k. Contains (get_or (set places index (get_or places index [] ++ new ∷ [])) k []) place) (sym same)
        (subst (λ l. Contains l place) (sym (get_or-set_same places index (get_or places index [] ++ new ∷ []) [] lt))
        (Contains-append_left (get_or places index []) (new ∷ []) place (subst (λ k. Contains (get_or places k []) place) same there)))
    go i false q there = subst (λ l. Contains l place) (sym (get_or-set_other places index i (get_or places index [] ++ new ∷ []) [] (λ same. clash i q same))) there
      where
        clash : (i : ℕ) → (i == index) ≡ false → i ≡ index → ⊥
        clash i q same = true≢false (sym (eq-eqb i index same) ∙ q)

pub has_put : (channels places : List (List ℕ)) (channel : List ℕ) (index new : ℕ) → index < length places → position (bytes_eq channel) channels ≡ Some index
    → Contains (holders_of channels (set places index (get_or places index [] ++ new ∷ [])) channel) new
has_put channels places channel index new lt at =
    subst (λ o. Contains (places_at (set places index (get_or places index [] ++ new ∷ [])) o) new) (sym at)
    (subst (λ l. Contains l new) (sym (get_or-set_same places index (get_or places index [] ++ new ∷ []) [] lt)) (Contains-push (get_or places index []) new))

-- ---- at calls

pub inserted_kept : (channels places channels' places' : List (List ℕ)) (new : List ℕ) → length places ≡ length channels → list_any (bytes_eq new) channels ≡ false
    → channels' ≡ insert_key bytes_eq channels new → places' ≡ places ++ [] ∷ [] → KeepsHolders channels places channels' places'
inserted_kept channels places channels' places' new paired absent keys items =
    let last : channels' ≡ channels ++ new ∷ [] = keys ∙ ap (λ b. cond b channels (channels ++ new ∷ [])) absent in
    λ channel place has. subst (λ k. Contains (holders_of k places' channel) place) (sym last)
    (subst (λ k. Contains (holders_of (channels ++ new ∷ []) k channel) place) (sym items) (keeps_new channels places new paired channel place has))

same_default : (xs : List (List ℕ)) (i : ℕ) (d e : List ℕ) → i < length xs → get_or xs i d ≡ get_or xs i e
same_default [] i d e lt = absurd (omega (arith, lt))
same_default (x ∷ xs) zero d e lt = refl
same_default (x ∷ xs) (suc i) d e lt = same_default xs i d e (omega (arith, lt))

set_back : (xs : List (List ℕ)) (i : ℕ) (d : List ℕ) → set xs i (get_or xs i d) ≡ xs
set_back [] i d = refl
set_back (x ∷ xs) zero d = refl
set_back (x ∷ xs) (suc i) d = ap (λ l. x ∷ l) (set_back xs i d)

pub back_kept : (c p keys places : List (List ℕ)) (index : ℕ) (old : List ℕ) → KeepsHolders c p keys places → old ≡ get_or places index old → KeepsHolders c p keys (set places index old)
back_kept c p keys places index old keeps at =
    let same : set places index old ≡ places = ap (set places index) at ∙ set_back places index old in
    λ channel place has. subst (λ k. Contains (holders_of keys k channel) place) (sym same) (keeps channel place has)

pub put_kept : (c p keys places : List (List ℕ)) (index new : ℕ) (old : List ℕ) → KeepsHolders c p keys places → index < length places → old ≡ get_or places index old
    → KeepsHolders c p keys (set places index (old ++ new ∷ []))
put_kept c p keys places index new old keeps lt at =
    let same : old ≡ get_or places index [] = at ∙ same_default places index old [] lt in
    λ channel place has. subst (λ k. Contains (holders_of keys (set places index (k ++ new ∷ [])) channel) place) (sym same)
    (keeps_put keys places index new lt channel place (keeps channel place has))

pub put_has : (keys places : List (List ℕ)) (channel : List ℕ) (index new : ℕ) (old : List ℕ) → index < length places → old ≡ get_or places index old
    → position (bytes_eq channel) keys ≡ Some index → Contains (holders_of keys (set places index (old ++ new ∷ [])) channel) new
put_has keys places channel index new old lt at found =
    let same : old ≡ get_or places index [] = at ∙ same_default places index old [] lt in
    subst (λ k. Contains (holders_of keys (set places index (k ++ new ∷ [])) channel) new) (sym same) (has_put keys places channel index new lt found)
