-- What is kept of a channel after a change, and after other channels are added.
use Rattle.std.proofs.Common.{◌≡◌, ℕ, Bool, true, false, cond, List, [], ◌∷◌, ◌++◌, Some, None, refl, sym, ◌∙◌, ap, subst}
use Rattle.std.specs.Prelude.{Option, slice_set}
use Rattle.std.specs.List.{find}
use Rattle.std.specs.Option.{option_map}
use Rattle.std.specs.Str.{bytes_eq}
use Rattle.call_history.proofs.Names.{same_bytes}
use Rattle.channel_store.specs.Storing.{is_of, place_of, kept_of, kept_at, kept_with}
use Rattle.channel_store.specs.declared.kept.Kept.{Kept}
use Rattle.channel_store.proofs.Places.{found_at_place, found_passes, changed_found, others_found}

pub named : (channel : List ℕ) (kept : List Kept) → kept_of channel kept ≡ find (is_of channel) kept
named channel kept = found_at_place (is_of channel) kept

-- what is kept of a channel has its name
kept_name : (channel : List ℕ) (kept : List Kept) (k : Kept) → kept_of channel kept ≡ Some k → bytes_eq k.channel channel ≡ true
kept_name channel kept k e = found_passes (is_of channel) kept k (sym (named channel kept) ∙ e)

abbrev pub KeepsName : (Kept → Kept) → Type 0
KeepsName change = (k : Kept) → (change k).channel ≡ k.channel

module _ (change : Kept → Kept) (keeps : KeepsName change) (channel : List ℕ) (kept : List Kept) where
  pub kept_same : kept_of channel (kept_with change channel kept) ≡ option_map change (kept_of channel kept)
  kept_same = go (kept_of channel kept) refl
    where
      go : (o : Option Kept) → kept_of channel kept ≡ o → kept_of channel (kept_at change kept (place_of channel kept) o) ≡ option_map change o
      go None e = e
      go (Some k) e =
          named channel (slice_set kept (place_of channel kept) (change k))
          ∙ changed_found (is_of channel) kept k (change k) (sym (named channel kept) ∙ e)
          (ap (λ (name : List ℕ). bytes_eq name channel) (keeps k) ∙ kept_name channel kept k e)

  pub kept_other : (c : List ℕ) → bytes_eq channel c ≡ false → kept_of c (kept_with change channel kept) ≡ kept_of c kept
  kept_other c apart = go (kept_of channel kept) refl
    where
      go : (o : Option Kept) → kept_of channel kept ≡ o → kept_of c (kept_at change kept (place_of channel kept) o) ≡ kept_of c kept
      go None e = refl
      go (Some k) e =
          let was : is_of c k ≡ false = ap (λ (name : List ℕ). bytes_eq name c) (same_bytes k.channel channel (kept_name channel kept k e)) ∙ apart in
          named c (slice_set kept (place_of channel kept) (change k))
          ∙ others_found (is_of channel) (is_of c) kept k (change k) (sym (named channel kept) ∙ e) was (ap (λ (name : List ℕ). bytes_eq name c) (keeps k) ∙ was)
          ∙ sym (named c kept)

  pub kept_here : (c : List ℕ) → bytes_eq channel c ≡ true → kept_of c (kept_with change channel kept) ≡ option_map change (kept_of c kept)
  kept_here c same = subst (λ (name : List ℕ). kept_of name (kept_with change channel kept) ≡ option_map change (kept_of name kept)) (same_bytes channel c same) kept_same

-- ---- more channels

abbrev pub or_last : Option Kept → Option Kept → Option Kept
or_last None last = last
or_last (Some k) last = Some k

find_append : (is : Kept → Bool) (kept more : List Kept) → find is (kept ++ more) ≡ or_last (find is kept) (find is more)
find_append is [] more = refl
find_append is (k ∷ kept) more = go (is k) (find_append is kept more)
  where
    go : (b : Bool) → find is (kept ++ more) ≡ or_last (find is kept) (find is more)
        → cond b (Some k) (find is (kept ++ more)) ≡ or_last (cond b (Some k) (find is kept)) (find is more)
    go true rest = refl
    go false rest = rest

pub kept_append : (c : List ℕ) (kept more : List Kept) → kept_of c (kept ++ more) ≡ or_last (kept_of c kept) (find (is_of c) more)
kept_append c kept more =
    named c (kept ++ more) ∙ find_append (is_of c) kept more ∙ ap (λ (o : Option Kept). or_last o (find (is_of c) more)) (sym (named c kept))
