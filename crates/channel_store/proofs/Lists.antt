-- What a change of one channel makes of the lists: where a list has one element of it before and after, that one
-- changes.
use Rattle.std.proofs.Common.{◌≡◌, ℕ, zero, suc, ◌+◌, ◌-◌, ◌<◌, ◌≤◌, ◌==◌, Bool, true, false, cond, ◌&&◌, List, [], ◌∷◌, ◌++◌, Some, None, length, take, map, set, get_or, refl, sym, ◌∙◌, ap, subst, arith, length-append}
use Rattle.std.specs.Prelude.{Option, slice_set, slice_index_or}
use Rattle.std.specs.List.{flat_map}
use Rattle.std.proofs.lemmas.List.{map-set, set-append_right}
use Rattle.channel_values.specs.Parts.{StateParts}
use Rattle.call_history.specs.declared.held_chain.HeldChain.{HeldChain}
use Rattle.call_history.specs.declared.held_chain.Known.{Known}
use Rattle.call_history.specs.declared.held_chain.Place.{Place}
use Rattle.channel_safety.proofs.Tests.{and-left, and-right, eqb-true}
use Rattle.channel_store.specs.Keeping.{is_held, held_chain, known_last, named, known_state, place_in}
use Rattle.channel_store.specs.Good.{are_alike}
use Rattle.channel_store.specs.declared.kept.Kept.{Kept}

module _ {Y : Type 0} (h : Kept → List Y) where
  -- the elements before those of a channel leave room for its one
  pub inside : (kept : List Kept) (i : ℕ) (d : Kept) → i < length kept → length (h (get_or kept i d)) ≡ 1 → length (flat_map h (take i kept)) < length (flat_map h kept)
  inside [] i d lt only = absurd (omega arith)
  inside (z ∷ zs) zero d lt only = let l : length (h z ++ flat_map h zs) ≡ length (h z) + length (flat_map h zs) = length-append (h z) (flat_map h zs) in omega arith
  inside (z ∷ zs) (suc i) d lt only =
      let a : length (h z ++ flat_map h zs) ≡ length (h z) + length (flat_map h zs) = length-append (h z) (flat_map h zs) in
      let b : length (h z ++ flat_map h (take i zs)) ≡ length (h z) + length (flat_map h (take i zs)) = length-append (h z) (flat_map h (take i zs)) in
      let c : length (flat_map h (take i zs)) < length (flat_map h zs) = inside zs i d (omega arith) only in
      omega arith

  pub replaced : (kept : List Kept) (i : ℕ) (k d : Kept) (y : Y) → i < length kept → length (h (get_or kept i d)) ≡ 1 → h k ≡ y ∷ []
      → set (flat_map h kept) (length (flat_map h (take i kept))) y ≡ flat_map h (set kept i k)
  replaced [] i k d y lt only is = absurd (omega arith)
  replaced (z ∷ zs) zero k d y lt only is = go (h z) only ∙ ap (λ (ys : List Y). ys ++ flat_map h zs) (sym is)
    where
      go : (xs : List Y) → length xs ≡ 1 → set (xs ++ flat_map h zs) 0 y ≡ (y ∷ []) ++ flat_map h zs
      go [] e = absurd (omega arith)
      go (x ∷ []) e = refl
      go (x ∷ w ∷ ws) e = absurd (omega arith)
  replaced (z ∷ zs) (suc i) k d y lt only is =
      let b : length (h z ++ flat_map h (take i zs)) ≡ length (h z) + length (flat_map h (take i zs)) = length-append (h z) (flat_map h (take i zs)) in
      let c : length (h z ++ flat_map h (take i zs)) - length (h z) ≡ length (flat_map h (take i zs)) = omega arith in
      set-append_right (h z) (flat_map h zs) (length (h z)) (length (h z ++ flat_map h (take i zs))) y refl (omega arith)
      ∙ ap (λ (n : ℕ). h z ++ set (flat_map h zs) n y) c
      ∙ ap (λ (ys : List Y). h z ++ ys) (replaced zs i k d y (omega arith) only is)

  pub same : (kept : List Kept) (i : ℕ) (k d : Kept) → i < length kept → length (h (get_or kept i d)) ≡ 0 → h k ≡ [] → flat_map h kept ≡ flat_map h (set kept i k)
  same [] i k d lt none is = absurd (omega arith)
  same (z ∷ zs) zero k d lt none is = ap (λ (ys : List Y). ys ++ flat_map h zs) (go (h z) none ∙ sym is)
    where
      go : (xs : List Y) → length xs ≡ 0 → xs ≡ []
      go [] e = refl
      go (x ∷ xs) e = absurd (omega arith)
  same (z ∷ zs) (suc i) k d lt none is = ap (λ (ys : List Y). h z ++ ys) (same zs i k d (omega arith) none is)

-- ---- the lists that are lent

pub count_more : {Y : Type 0} (h : Kept → List Y) (k : Kept) (kept : List Kept) → length (flat_map h (k ∷ kept)) ≡ length (h k) + length (flat_map h kept)
count_more h k kept = length-append (h k) (flat_map h kept)

pub chain_few : (k : Kept) → length (held_chain k) ≤ 1
chain_few k = go (is_held k)
  where
    one : HeldChain
    one = record { channel = k.channel; chain = k.chain }

    go : (b : Bool) → length (cond b (one ∷ []) []) ≤ 1
    go true = omega arith
    go false = omega arith

pub known_few : (k : Kept) → length (known_state k) ≤ 1
known_few k = go (known_last k)
  where
    go : (o : Option StateParts) → length (named k.channel o) ≤ 1
    go None = omega arith
    go (Some last) = omega arith

both : (a b c d : ℕ) → ((a == b) && (c == d)) ≡ true → (a ≡ b) × (c ≡ d)
both a b c d e = (eqb-true a b (and-left (a == b) (c == d) e), eqb-true c d (and-right (a == b) (c == d) e))

pub chains_alike : (old new : Kept) → are_alike old new ≡ true → length (held_chain old) ≡ length (held_chain new)
chains_alike old new e = (both (length (held_chain old)) (length (held_chain new)) (length (known_state old)) (length (known_state new)) e).0

pub known_alike : (old new : Kept) → are_alike old new ≡ true → length (known_state old) ≡ length (known_state new)
known_alike old new e = (both (length (held_chain old)) (length (held_chain new)) (length (known_state old)) (length (known_state new)) e).1

pub chain_inside : (kept : List Kept) (place rank : ℕ) (k : Kept) (chains : List HeldChain) (chain : HeldChain) → place < length kept
    → length (held_chain (slice_index_or kept place k)) ≡ length (held_chain k) → chain ∷ [] ≡ held_chain k → chains ≡ flat_map held_chain kept
    → rank ≡ length (flat_map held_chain (take place kept)) → rank < length chains
chain_inside kept place rank k chains chain within alike is before at =
    let only : length (held_chain (slice_index_or kept place k)) ≡ 1 = alike ∙ ap length (sym is) in
    subst (λ (n : ℕ). n < length chains) (sym at) (subst (λ (xs : List HeldChain). length (flat_map held_chain (take place kept)) < length xs) (sym before) (inside held_chain kept place k within only))

pub chain_put : (kept : List Kept) (place rank : ℕ) (k : Kept) (chains : List HeldChain) (chain : HeldChain) → place < length kept
    → length (held_chain (slice_index_or kept place k)) ≡ length (held_chain k) → chain ∷ [] ≡ held_chain k → chains ≡ flat_map held_chain kept
    → rank ≡ length (flat_map held_chain (take place kept)) → slice_set chains rank chain ≡ flat_map held_chain (slice_set kept place k)
chain_put kept place rank k chains chain within alike is before at =
    let only : length (held_chain (slice_index_or kept place k)) ≡ 1 = alike ∙ ap length (sym is) in
    ap (λ (xs : List HeldChain). set xs rank chain) before ∙ ap (λ (n : ℕ). set (flat_map held_chain kept) n chain) at
    ∙ replaced held_chain kept place k k chain within only (sym is)

pub chain_same : (kept : List Kept) (place : ℕ) (k : Kept) (chains : List HeldChain) → place < length kept
    → length (held_chain (slice_index_or kept place k)) ≡ length (held_chain k) → [] ≡ held_chain k → chains ≡ flat_map held_chain kept
    → chains ≡ flat_map held_chain (slice_set kept place k)
chain_same kept place k chains within alike is before = before ∙ same held_chain kept place k k within (alike ∙ ap length (sym is)) (sym is)

pub known_inside : (kept : List Kept) (place rank : ℕ) (k : Kept) (list : List Known) (one : Known) → place < length kept
    → length (known_state (slice_index_or kept place k)) ≡ length (known_state k) → one ∷ [] ≡ known_state k → list ≡ flat_map known_state kept
    → rank ≡ length (flat_map known_state (take place kept)) → rank < length list
known_inside kept place rank k list one within alike is before at =
    let only : length (known_state (slice_index_or kept place k)) ≡ 1 = alike ∙ ap length (sym is) in
    subst (λ (n : ℕ). n < length list) (sym at) (subst (λ (xs : List Known). length (flat_map known_state (take place kept)) < length xs) (sym before) (inside known_state kept place k within only))

pub known_put : (kept : List Kept) (place rank : ℕ) (k : Kept) (list : List Known) (one : Known) → place < length kept
    → length (known_state (slice_index_or kept place k)) ≡ length (known_state k) → one ∷ [] ≡ known_state k → list ≡ flat_map known_state kept
    → rank ≡ length (flat_map known_state (take place kept)) → slice_set list rank one ≡ flat_map known_state (slice_set kept place k)
known_put kept place rank k list one within alike is before at =
    let only : length (known_state (slice_index_or kept place k)) ≡ 1 = alike ∙ ap length (sym is) in
    ap (λ (xs : List Known). set xs rank one) before ∙ ap (λ (n : ℕ). set (flat_map known_state kept) n one) at
    ∙ replaced known_state kept place k k one within only (sym is)

pub known_same : (kept : List Kept) (place : ℕ) (k : Kept) (list : List Known) → place < length kept
    → length (known_state (slice_index_or kept place k)) ≡ length (known_state k) → [] ≡ known_state k → list ≡ flat_map known_state kept
    → list ≡ flat_map known_state (slice_set kept place k)
known_same kept place k list within alike is before = before ∙ same known_state kept place k k within (alike ∙ ap length (sym is)) (sym is)

pub place_put : (kept : List Kept) (place : ℕ) (k : Kept) (places : List Place) (at : Place) → places ≡ map place_in kept → at ≡ place_in k
    → slice_set places place at ≡ map place_in (slice_set kept place k)
place_put kept place k places at before is =
    ap (λ (xs : List Place). set xs place at) before ∙ ap (set (map place_in kept) place) is ∙ sym (map-set place_in kept place k)
