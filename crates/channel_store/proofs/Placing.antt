-- What stands past the end of what is kept, what a refused change writes back, and what is kept at a place.
use Rattle.std.proofs.Common.{◌≡◌, ℕ, ◌<◌, ◌≤◌, Bool, true, false, cond, List, [], ◌∷◌, ◌++◌, Some, None, length, refl, ap, ◌∙◌, sym, subst, arith}
use Rattle.std.specs.Prelude.{slice_set, slice_index_or, nat_lt}
use Rattle.std.specs.List.{slice_get}
use Rattle.std.specs.Map.{lookup}
use Rattle.std.specs.Str.{bytes_eq}
use Rattle.std.proofs.lemmas.List.Elements.{All-get_or}
use Rattle.std.proofs.lemmas.List.{set-set, set-get_or}
use Rattle.std.proofs.lemmas.Option.{slice_get-get_or, slice_get_past}
use Rattle.call_history.specs.declared.held_chain.HeldChain.{HeldChain}
use Rattle.call_history.specs.declared.held_chain.Known.{Known}
use Rattle.call_history.specs.declared.held_chain.Place.{Place}
use Rattle.channel_values.specs.Rules.{Rules}
use Rattle.call_history.proofs.Placed as places
use Rattle.call_history.specs.Marked.{Marked, marked_of, is_newer}
use Rattle.channel_store.specs.Good.{IsLent, IsGoodKept, AreGood, IsStore}
use Rattle.channel_store.specs.Storing.{is_of, place_of, kept_of, ArePlaced}
use Rattle.channel_store.specs.Noting.{is_newer_at, is_adopted}
use Rattle.channel_store.specs.declared.kept.Kept.{Kept}

abbrev pub none : Kept
none = record { channel = []; me = 0; chain = record { fixed = record { keys = []; nonce = 0; app = 0; duration = 0 }; states = []; marks = [] }; last = None }

pub put_back : (xs : List Kept) (i : ℕ) (a b : Kept) → b ≡ slice_index_or xs i b → slice_set (slice_set xs i a) i b ≡ xs
put_back xs i a b e = set-set xs i a b ∙ (ap (slice_set xs i) e ∙ set-get_or xs i b)

pub lent_back : (xs : List Kept) (i : ℕ) (a b : Kept) (chains : List HeldChain) (known : List Known) (places : List Place) → b ≡ slice_index_or xs i b → IsLent xs chains known places → IsLent (slice_set (slice_set xs i a) i b) chains known places
lent_back xs i a b chains known places e lent = subst (λ (kept : List Kept). IsLent kept chains known places) (sym (put_back xs i a b e)) lent

pub put_same : (xs : List Kept) (i : ℕ) (b : Kept) → b ≡ slice_index_or xs i b → slice_set xs i b ≡ xs
put_same xs i b e = ap (slice_set xs i) e ∙ set-get_or xs i b

pub good_there : (r : Rules) (xs : List Kept) (i : ℕ) (b : Kept) → AreGood r xs → i < length xs → b ≡ slice_index_or xs i b → IsGoodKept r b
good_there r xs i b good within e = subst (IsGoodKept r) (sym e) (All-get_or (IsGoodKept r) xs i b within good)

pub newer_there : (r : Rules) (channel : List ℕ) (shown : Marked) (xs : List Kept) (i : ℕ) (b : Kept) → i ≡ place_of channel xs → i < length xs → b ≡ slice_index_or xs i b
    → is_newer r b.chain.fixed shown (marked_of b.chain) ≡ is_adopted r channel shown xs
newer_there r channel shown xs i b at within e =
    let there : slice_get xs i ≡ Some (slice_index_or xs i b) = slice_get-get_or xs i b within in
    ap (is_newer_at r shown) (ap (λ (k : Kept). Some k) e ∙ sym there ∙ ap (slice_get xs) at)

pub none_there : (r : Rules) (channel : List ℕ) (shown : Marked) (xs : List Kept) (i : ℕ) → i ≡ place_of channel xs → length xs ≤ i → false ≡ is_adopted r channel shown xs
none_there r channel shown xs i at past =
    ap (is_newer_at r shown) (sym (slice_get_past xs i past) ∙ ap (slice_get xs) at)

-- ---- the table of names

pub place_there : (channel : List ℕ) (by_name : List (List ℕ × ℕ)) (kept : List Kept) (i : ℕ) → ArePlaced by_name kept
    → Some i ≡ lookup (bytes_eq channel) by_name → i ≡ place_of channel kept
place_there channel by_name kept i placed e = (places.position_some (is_of channel) kept i (sym (placed channel) ∙ sym e)).0

pub place_past : (channel : List ℕ) (by_name : List (List ℕ × ℕ)) (kept : List Kept) (i : ℕ) → ArePlaced by_name kept
    → None ≡ lookup (bytes_eq channel) by_name → i ≡ length kept → i ≡ place_of channel kept
place_past channel by_name kept i placed e end = places.at_end (is_of channel) kept i (sym (placed channel) ∙ sym e) (sym end)

-- a channel that isn't kept has no place
pub no_place : (channel : List ℕ) (by_name : List (List ℕ × ℕ)) (kept : List Kept) → ArePlaced by_name kept → kept_of channel kept ≡ None
    → lookup (bytes_eq channel) by_name ≡ None
no_place channel by_name kept placed e = placed channel ∙ go (nat_lt (place_of channel kept) (length kept)) refl
  where
    go : (b : Bool) → nat_lt (place_of channel kept) (length kept) ≡ b → cond b (Some (place_of channel kept)) None ≡ None
    go true lt =
        let there : slice_get kept (place_of channel kept) ≡ Some (slice_index_or kept (place_of channel kept) none) =
        slice_get-get_or kept (place_of channel kept) none (grind (arith, lt)) in
        let clash : Some (slice_index_or kept (place_of channel kept) none) ≡ None = sym there ∙ e in
        absurd cc
    go false ge = refl

pub placed_new : (before after : List (List ℕ × ℕ)) (kept : List Kept) (k : Kept)
    → ArePlaced before kept → kept_of k.channel kept ≡ None
    → ((c : List ℕ) → lookup (bytes_eq c) after ≡ cond (bytes_eq k.channel c) (Some (length kept)) (lookup (bytes_eq c) before))
    → ArePlaced after (kept ++ k ∷ [])
placed_new before after kept k placed new is =
    places.placed_new (λ (k : Kept). k.channel) before after kept k placed (no_place k.channel before kept placed new) is

pub placed_set : (by_name : List (List ℕ × ℕ)) (kept : List Kept) (i : ℕ) (k : Kept) → ArePlaced by_name kept
    → (slice_index_or kept i k).channel ≡ k.channel → ArePlaced by_name (slice_set kept i k)
placed_set = places.placed_set (λ (k : Kept). k.channel)

pub placed_back : (by_name : List (List ℕ × ℕ)) (xs : List Kept) (i : ℕ) (a b : Kept) → b ≡ slice_index_or xs i b → ArePlaced by_name xs
    → ArePlaced by_name (slice_set (slice_set xs i a) i b)
placed_back by_name xs i a b e placed = subst (ArePlaced by_name) (sym (put_back xs i a b e)) placed

-- what a store is with something else of a channel
pub stored : (r : Rules) (by_name : List (List ℕ × ℕ)) (kept : List Kept) (i : ℕ) (k new : Kept) (chains : List HeldChain) (known : List Known) (places : List Place)
    → ArePlaced by_name kept → (slice_index_or kept i k).channel ≡ k.channel → AreGood r (slice_set kept i k) → new ≡ k
    → IsLent (slice_set kept i new) chains known places → IsStore r (slice_set kept i new) by_name chains known places
stored r by_name kept i k new chains known places placed named good same lent = record {
  placed = subst (λ (x : Kept). ArePlaced by_name (slice_set kept i x)) (sym same) (placed_set by_name kept i k placed named);
  lent = lent;
  good = subst (λ (x : Kept). AreGood r (slice_set kept i x)) (sym same) good;
}
