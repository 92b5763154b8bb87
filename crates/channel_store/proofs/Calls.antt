-- What a call answers, by what is kept of its channel.
use Rattle.std.proofs.Common.{◌≡◌, ℕ, ◌<◌, Bool, true, false, cond, List, length, Some, None, refl, sym, ◌∙◌, ap, subst}
use Rattle.std.specs.Prelude.{Option, slice_set, slice_index_or}
use Rattle.std.specs.Option.{option_map}
use Rattle.std.proofs.lemmas.List.{set-get_or}
use Rattle.std.proofs.lemmas.Option.{slice_get_within, get_or_from_slice_get}
use Rattle.channel_values.specs.declared.chain.Signed.{Signed}
use Rattle.channel_values.specs.Rules.{Rules}
use Rattle.call_history.specs.Marked.{Marked, marked_of, is_newer}
use Rattle.channel_store.specs.Keeping.{noting, with_chain, adopting}
use Rattle.channel_store.specs.Good.{note_fault, AreGood}
use Rattle.channel_store.specs.Storing.{place_of, kept_of, kept_at, kept_with}
use Rattle.channel_store.specs.Noting.{refusal_at, refusal_of, fault_of, is_newer_at, is_adopted}
use Rattle.channel_store.specs.declared.fault.NoteFault.{NoteFault}
use Rattle.channel_store.specs.declared.fault.NoteFault.TheVariants as faults
use Rattle.channel_store.specs.declared.kept.Kept.{Kept}
use Rattle.channel_store.proofs.Good.{changed_good, noting_good, adopting_good}

-- ---- notes

pub is_known : (r : Rules) (channel : List ℕ) (next : Signed) (kept : List Kept) → refusal_of r channel next kept ≡ None → None ≡ kept_of channel kept → ⊥
is_known r channel next kept e f = let clash : Some faults.Unknown ≡ None = ap (refusal_at r next) f ∙ e in cc

pub passes_there : (r : Rules) (channel : List ℕ) (next : Signed) (kept : List Kept) (k : Kept) → refusal_of r channel next kept ≡ None → Some k ≡ kept_of channel kept → note_fault r k next ≡ None
passes_there r channel next kept k e f = ap (refusal_at r next) f ∙ e

pub told_fault : (refusal : Option NoteFault) (fault : NoteFault) → Some fault ≡ refusal → fault ≡ fault_of refusal
told_fault refusal fault e = ap fault_of e

pub noted_one : (r : Rules) (own : Bool) (channel : List ℕ) (next : Signed) (kept : List Kept) (k noted : Kept) → Some k ≡ kept_of channel kept → noted ≡ noting r own next k
    → option_map (noting r own next) (kept_of channel kept) ≡ Some noted
noted_one r own channel next kept k noted e is = ap (option_map (noting r own next)) (sym e) ∙ ap (λ (x : Kept). Some x) (sym is)

pub wants_memory_of : (refusal : Option NoteFault) → refusal ≡ None → faults.NoMemory ≡ fault_of refusal
wants_memory_of refusal e = ap fault_of (sym e)

-- ---- changes

changed_at : (change : Kept → Kept) (kept : List Kept) (place : ℕ) (o : Option Kept) (k : Kept) → option_map change o ≡ Some k → slice_set kept place k ≡ kept_at change kept place o
changed_at change kept place None k e = absurd cc
changed_at change kept place (Some old) k e = ap (slice_set kept place) (sym (same e))
  where
    same : Some (change old) ≡ Some k → change old ≡ k
    same f = cc

pub within : (change : Kept → Kept) (channel : List ℕ) (kept : List Kept) (k : Kept) → option_map change (kept_of channel kept) ≡ Some k → place_of channel kept < length kept
within change channel kept k e = go (kept_of channel kept) refl e
  where
    go : (o : Option Kept) → kept_of channel kept ≡ o → option_map change o ≡ Some k → place_of channel kept < length kept
    go None f e = absurd cc
    go (Some old) f e = slice_get_within kept (place_of channel kept) old f

pub noted_changes : (change : Kept → Kept) (channel : List ℕ) (kept : List Kept) (k : Kept) → option_map change (kept_of channel kept) ≡ Some k
    → slice_set kept (place_of channel kept) k ≡ kept_with change channel kept
noted_changes change channel kept k e = changed_at change kept (place_of channel kept) (kept_of channel kept) k e

pub noted_good : (r : Rules) (own : Bool) (channel : List ℕ) (next : Signed) (kept : List Kept) (k : Kept) → AreGood r kept → option_map (noting r own next) (kept_of channel kept) ≡ Some k
    → AreGood r (slice_set kept (place_of channel kept) k)
noted_good r own channel next kept k good e =
    subst (AreGood r) (sym (noted_changes (noting r own next) channel kept k e)) (changed_good r (noting r own next) channel kept (noting_good r own next) good)

-- it is of the same channel
pub noted_named : (r : Rules) (own : Bool) (channel : List ℕ) (next : Signed) (kept : List Kept) (k : Kept) → option_map (noting r own next) (kept_of channel kept) ≡ Some k
    → (slice_index_or kept (place_of channel kept) k).channel ≡ k.channel
noted_named r own channel next kept k e = go (kept_of channel kept) refl e
  where
    go : (o : Option Kept) → kept_of channel kept ≡ o → option_map (noting r own next) o ≡ Some k → (slice_index_or kept (place_of channel kept) k).channel ≡ k.channel
    go None f e = absurd cc
    go (Some old) f e =
        let new : noting r own next old ≡ k = same e in
        ap (λ (x : Kept). x.channel) (get_or_from_slice_get kept (place_of channel kept) old k f) ∙ ap (λ (x : Kept). x.channel) new
      where
        same : Some (noting r own next old) ≡ Some k → noting r own next old ≡ k
        same f = cc

pub changes : (change : Kept → Kept) (channel : List ℕ) (kept : List Kept) (k : Kept) → Some k ≡ kept_of channel kept
    → slice_set kept (place_of channel kept) (change k) ≡ kept_with change channel kept
changes change channel kept k e = ap (kept_at change kept (place_of channel kept)) e

pub changes_nothing : (change : Kept → Kept) (channel : List ℕ) (kept : List Kept) → None ≡ kept_of channel kept → kept ≡ kept_with change channel kept
changes_nothing change channel kept e = ap (kept_at change kept (place_of channel kept)) e

-- ---- adoptions

pub adopts_nothing : (r : Rules) (channel : List ℕ) (shown : Marked) (kept : List Kept) → None ≡ kept_of channel kept → false ≡ is_adopted r channel shown kept
adopts_nothing r channel shown kept e = ap (is_newer_at r shown) e

adopting_is : (r : Rules) (shown : Marked) (k : Kept) (b : Bool) → is_newer r k.chain.fixed shown (marked_of k.chain) ≡ b → adopting r shown k ≡ with_chain (cond b shown (marked_of k.chain)) k
adopting_is r shown k b e = ap (λ (x : Bool). with_chain (cond x shown (marked_of k.chain)) k) e

pub keeps : (r : Rules) (channel : List ℕ) (shown : Marked) (kept : List Kept) → is_adopted r channel shown kept ≡ false → kept ≡ kept_with (adopting r shown) channel kept
keeps r channel shown kept e = go (kept_of channel kept) refl e
  where
    go : (o : Option Kept) → kept_of channel kept ≡ o → is_newer_at r shown o ≡ false → kept ≡ kept_at (adopting r shown) kept (place_of channel kept) o
    go None f e = refl
    go (Some k) f e =
        sym (ap (slice_set kept (place_of channel kept)) (adopting_is r shown k false e ∙ sym (get_or_from_slice_get kept (place_of channel kept) k k f))
        ∙ set-get_or kept (place_of channel kept) k)

pub adopts : (r : Rules) (channel : List ℕ) (shown : Marked) (kept : List Kept) (k : Kept) → Some k ≡ kept_of channel kept → is_adopted r channel shown kept ≡ true
    → slice_set kept (place_of channel kept) (with_chain shown k) ≡ kept_with (adopting r shown) channel kept
adopts r channel shown kept k e f =
    ap (slice_set kept (place_of channel kept)) (sym (adopting_is r shown k true (ap (is_newer_at r shown) e ∙ f)))
    ∙ changes (adopting r shown) channel kept k e

pub adopts_good : (r : Rules) (channel : List ℕ) (shown : Marked) (kept : List Kept) (k : Kept) → AreGood r kept → Some k ≡ kept_of channel kept → is_adopted r channel shown kept ≡ true
    → AreGood r (slice_set kept (place_of channel kept) (with_chain shown k))
adopts_good r channel shown kept k good e f =
    subst (AreGood r) (sym (adopts r channel shown kept k e f)) (changed_good r (adopting r shown) channel kept (adopting_good r shown) good)

pub adopts_set : (r : Rules) (channel : List ℕ) (shown : Marked) (kept after : List Kept) (k new : Kept) (place : ℕ) → after ≡ kept → place ≡ place_of channel kept → new ≡ with_chain shown k
    → AreGood r kept → Some k ≡ kept_of channel kept → is_adopted r channel shown kept ≡ true → AreGood r (slice_set after place new)
adopts_set r channel shown kept after k new place same at is good e f =
    subst (AreGood r) (sym (ap (λ (ks : List Kept). slice_set ks place new) same ∙ ap (λ (n : ℕ). slice_set kept n new) at ∙ ap (slice_set kept (place_of channel kept)) is))
    (adopts_good r channel shown kept k good e f)

pub adopts_named : (channel : List ℕ) (shown : Marked) (kept after : List Kept) (k new : Kept) (place : ℕ) → after ≡ kept → place ≡ place_of channel kept → new ≡ with_chain shown k
    → Some k ≡ kept_of channel kept → (slice_index_or after place new).channel ≡ new.channel
adopts_named channel shown kept after k new place same at is e =
    ap (λ (ks : List Kept). (slice_index_or ks place new).channel) same
    ∙ ap (λ (n : ℕ). (slice_index_or kept n new).channel) at
    ∙ ap (λ (x : Kept). x.channel) (get_or_from_slice_get kept (place_of channel kept) k new (sym e))
    ∙ sym (ap (λ (x : Kept). x.channel) is)
