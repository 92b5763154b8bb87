-- What is kept stays the first round so far or a supported chain, and a chain is held exactly where it is supported.
use Rattle.std.proofs.Common.{◌≡◌, ℕ, ◌<◌, ◌≤◌, Bool, true, false, cond, ◌&&◌, ◌||◌, not, List, [], ◌∷◌, ◌++◌, Some, None, inl, inr, length, refl, sym, ◌∙◌, ap, subst, arith}
use Rattle.std.specs.Prelude.{Option, slice_set, nat_le, nat_lt, is_ok}
use Rattle.std.specs.List.{slice_get, flat_map}
use Rattle.std.proofs.lemmas.Bool.Decides.{nat_tests}
use Rattle.std.proofs.lemmas.List.Elements.{All-nil, All-cons, All-head, All-tail, All-get_or, All-set, All-push, All-append}
use Rattle.std.proofs.lemmas.Option.{slice_get_within, get_or_from_slice_get}
use Rattle.channel_values.specs.Parts.{FixedParts}
use Rattle.channel_values.specs.declared.chain.Signed.{Signed}
use Rattle.channel_values.specs.Rules.{Rules, people, top_turn}
use Rattle.channel_values.specs.Support.{supports}
use Rattle.call_history.specs.Marked.{Marked, marked_of, is_supported, answered, extends, is_newer}
use Rattle.call_history.specs.declared.held_chain.HeldChain.{HeldChain}
use Rattle.channel_safety.proofs.Tests.{and-left, true-le, false-le}
use Rattle.channel_safety.proofs.Chains.{parts}
use Rattle.channel_safety.proofs.ChainsGrow.{noted-good, nothing-young}
use Rattle.channel_store.specs.Keeping.{is_held, with_chain, noting, adopting, held_chain}
use Rattle.channel_store.specs.Good.{is_as_new, IsGoodKept, AreGood, AreSupported}
use Rattle.channel_store.specs.Storing.{place_of, kept_of, kept_at, kept_with, added}
use Rattle.channel_store.specs.declared.kept.Kept.{Kept}

-- ---- one channel

pub noting_good : (r : Rules) (own : Bool) (next : Signed) (k : Kept) → IsGoodKept r k → IsGoodKept r (noting r own next k)
noting_good r own next k good = go (extends r k.chain.fixed next (marked_of k.chain)) refl
  where
    go : (b : Bool) → extends r k.chain.fixed next (marked_of k.chain) ≡ b
        → IsGoodKept r (with_chain (cond b (answered k.chain.fixed next (marked_of k.chain)) (marked_of k.chain)) k)
    go true e = (noted-good r k.chain.fixed next (marked_of k.chain) good e).good
    go false e = good

pub adopting_good : (r : Rules) (shown : Marked) (k : Kept) → IsGoodKept r k → IsGoodKept r (adopting r shown k)
adopting_good r shown k good = go (is_newer r k.chain.fixed shown (marked_of k.chain)) refl
  where
    go : (b : Bool) → is_newer r k.chain.fixed shown (marked_of k.chain) ≡ b → IsGoodKept r (with_chain (cond b shown (marked_of k.chain)) k)
    go true e = inr (and-left (is_supported r k.chain.fixed shown) (not (is_supported r k.chain.fixed (marked_of k.chain)) || nat_lt (top_turn k.chain.states) (top_turn shown.states)) e)
    go false e = good

pub held_is : (r : Rules) (k : Kept) → IsGoodKept r k → is_held k ≡ is_supported r k.chain.fixed (marked_of k.chain)
held_is r k (inr chain) =
    let marks : length k.chain.marks ≡ people k.chain.fixed = (parts r k.chain.fixed (marked_of k.chain) chain).marks in
    true-le (people k.chain.fixed) (length k.chain.marks) (omega arith) ∙ sym chain
held_is r k (inl young) = go (is_supported r k.chain.fixed (marked_of k.chain)) refl
  where
    few : length k.chain.marks < people k.chain.fixed
    few = let marks : length k.chain.marks ≡ length k.chain.states = young.marks in let states : length k.chain.states < people k.chain.fixed = young.few in omega arith

    go : (b : Bool) → is_supported r k.chain.fixed (marked_of k.chain) ≡ b → is_held k ≡ is_supported r k.chain.fixed (marked_of k.chain)
    go true e =
        let marks : length k.chain.marks ≡ people k.chain.fixed = (parts r k.chain.fixed (marked_of k.chain) e).marks in
        absurd (omega (arith, few))
    go false e = false-le (people k.chain.fixed) (length k.chain.marks) few ∙ sym e

good_few : (r : Rules) (k : Kept) → IsGoodKept r k → length k.chain.states ≤ people k.chain.fixed
good_few r k (inr chain) = (parts r k.chain.fixed (marked_of k.chain) chain).few
good_few r k (inl young) = let states : length k.chain.states < people k.chain.fixed = young.few in omega arith

-- ---- a shown chain

lt_not : (a b : ℕ) → nat_lt a b ≡ not (nat_le b a)
lt_not a b = grind (arith, nat_tests)

either : (s h le : Bool) → (s && (not h || not le)) ≡ (s && not (h && le))
either s true le = refl
either s false le = refl

and_false : (b : Bool) → (b && false) ≡ false
and_false true = refl
and_false false = refl

and_true : (b : Bool) → (b && true) ≡ b
and_true true = refl
and_true false = refl

newer_is : (r : Rules) (k : Kept) (shown : Marked) → IsGoodKept r k → is_newer r k.chain.fixed shown (marked_of k.chain) ≡ (is_supported r k.chain.fixed shown && not (is_as_new k shown))
newer_is r k shown good =
    ap (λ b. is_supported r k.chain.fixed shown && (not b || nat_lt (top_turn k.chain.states) (top_turn shown.states))) (sym (held_is r k good))
    ∙ ap (λ b. is_supported r k.chain.fixed shown && (not (is_held k) || b)) (lt_not (top_turn k.chain.states) (top_turn shown.states))
    ∙ either (is_supported r k.chain.fixed shown) (is_held k) (nat_le (top_turn shown.states) (top_turn k.chain.states))

pub not_newer : (r : Rules) (k : Kept) (shown : Marked) → IsGoodKept r k → is_as_new k shown ≡ true → is_newer r k.chain.fixed shown (marked_of k.chain) ≡ false
not_newer r k shown good e = newer_is r k shown good ∙ ap (λ b. is_supported r k.chain.fixed shown && not b) e ∙ and_false (is_supported r k.chain.fixed shown)

pub newer : (r : Rules) (k : Kept) (shown : Marked) → IsGoodKept r k → is_as_new k shown ≡ false → is_newer r k.chain.fixed shown (marked_of k.chain) ≡ is_supported r k.chain.fixed shown
newer r k shown good e = newer_is r k shown good ∙ ap (λ b. is_supported r k.chain.fixed shown && not b) e ∙ and_true (is_supported r k.chain.fixed shown)

-- ---- all channels

pub good_at : (r : Rules) (kept : List Kept) (i : ℕ) (k : Kept) → slice_get kept i ≡ Some k → AreGood r kept → IsGoodKept r k
good_at r kept i k e good = subst (IsGoodKept r) (get_or_from_slice_get kept i k k e) (All-get_or (IsGoodKept r) kept i k (slice_get_within kept i k e) good)

pub kept_few : (r : Rules) (channel : List ℕ) (kept : List Kept) (k : Kept) → AreGood r kept → Some k ≡ kept_of channel kept → length k.chain.states ≤ people k.chain.fixed
kept_few r channel kept k good e = good_few r k (good_at r kept (place_of channel kept) k (sym e) good)

pub added_good : (r : Rules) (f : FixedParts) (me : ℕ) (kept : List Kept) → 1 ≤ people f → AreGood r kept → AreGood r (kept ++ added f me ∷ [])
added_good r f me kept some good = All-push (IsGoodKept r) kept (added f me) good (inl (nothing-young r f some))

pub added_well : (r : Rules) (f : FixedParts) (me : ℕ) (kept : List Kept) → me < people f → AreGood r kept → AreGood r (kept ++ added f me ∷ [])
added_well r f me kept position good = added_good r f me kept (omega arith) good

-- a change that keeps a channel good keeps them all so
pub changed_good : (r : Rules) (change : Kept → Kept) (channel : List ℕ) (kept : List Kept) → ((k : Kept) → IsGoodKept r k → IsGoodKept r (change k)) → AreGood r kept
    → AreGood r (kept_with change channel kept)
changed_good r change channel kept keeps good = go (kept_of channel kept) refl
  where
    go : (o : Option Kept) → kept_of channel kept ≡ o → AreGood r (kept_at change kept (place_of channel kept) o)
    go None e = good
    go (Some k) e = All-set (IsGoodKept r) kept (place_of channel kept) (change k) (keeps k (good_at r kept (place_of channel kept) k e good)) good

pub notes_good : (r : Rules) (own : Bool) (channel : List ℕ) (next : Signed) (kept : List Kept) (k : Kept) → AreGood r kept → Some k ≡ kept_of channel kept
    → AreGood r (slice_set kept (place_of channel kept) (noting r own next k))
notes_good r own channel next kept k good e =
    All-set (IsGoodKept r) kept (place_of channel kept) (noting r own next k) (noting_good r own next k (good_at r kept (place_of channel kept) k (sym e) good)) good

-- each held chain is supported
supported_one : (r : Rules) (k : Kept) → IsGoodKept r k → AreSupported r (held_chain k)
supported_one r k good = go (is_held k) (held_is r k good)
  where
    held : HeldChain
    held = record { channel = k.channel; chain = k.chain }

    go : (b : Bool) → b ≡ is_supported r k.chain.fixed (marked_of k.chain) → AreSupported r (cond b (record { channel = k.channel; chain = k.chain } ∷ []) [])
    go true e = All-cons (λ (h : HeldChain). is_ok (supports r h.chain) ≡ true) held [] (sym e) (All-nil (λ (h : HeldChain). is_ok (supports r h.chain) ≡ true))
    go false e = All-nil (λ (h : HeldChain). is_ok (supports r h.chain) ≡ true)

pub held_are_supported : (r : Rules) (kept : List Kept) → AreGood r kept → AreSupported r (flat_map held_chain kept)
held_are_supported r [] good = All-nil (λ (h : HeldChain). is_ok (supports r h.chain) ≡ true)
held_are_supported r (k ∷ kept) good =
    All-append (λ (h : HeldChain). is_ok (supports r h.chain) ≡ true) (held_chain k) (flat_map held_chain kept)
    (supported_one r k (All-head (IsGoodKept r) k kept good)) (held_are_supported r kept (All-tail (IsGoodKept r) k kept good))
