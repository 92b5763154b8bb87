-- What is held stays, so a channel that counts goes on as it was, unless it becomes final or its person signs.
use Rattle.std.proofs.Common.{◌≡◌, ℕ, ◌≤◌, Bool, true, false, cond, List, [], ◌∷◌, ◌++◌, length, refl, sym, ◌∙◌, ap, subst, arith, inl, inr}
use Rattle.std.specs.Prelude.{Option, Some, None}
use Rattle.std.specs.Option.{option_map, option_or}
use Rattle.channel_values.specs.Parts.{FixedParts}
use Rattle.channel_values.specs.declared.chain.Signed.{Signed}
use Rattle.channel_values.specs.declared.value.AssetOutcome.{AssetOutcome}
use Rattle.call_history.specs.Mode.{is_final}
use Rattle.channel_values.specs.Rules.{Rules}
use Rattle.call_history.specs.Flows.{held_in, paid_in, paid_of_item}
use Rattle.call_history.specs.Rest.{rest_outcome}
use Rattle.call_history.specs.History.{mode, settled, flow_of, flows_of, held_of, paid_to, paid_of, payment_of, payments_of, rest_of_channel}
use Rattle.call_history.specs.Marked.{Marked}
use Rattle.call_history.specs.Shown.{shown}
use Rattle.call_history.specs.declared.call.Call.TheVariants.{Deposit, Transfer, Claim}
use Rattle.call_history.specs.declared.call.Op.{Op}
use Rattle.call_history.specs.declared.call.Op.TheVariants as ops
use Rattle.call_history.specs.declared.entry.Entry.{Entry}
use Rattle.call_history.specs.declared.event.Deed.{Deed}
use Rattle.call_history.specs.declared.event.Deed.TheVariants as deeds
use Rattle.call_history.specs.declared.funds.Flow.{Flow}
use Rattle.call_history.specs.declared.funds.Payment.{Payment}
use Rattle.call_history.specs.declared.refusal.Reply.{Reply}
use Rattle.channel_safety.specs.Journals.{In, Line, opened, made_in, noted_in, is_watched}
use Rattle.funding_plans.specs.declared.plan.Part.{Part}
use Rattle.share_laws.specs.Share.{share_of}
use Rattle.std.proofs.lemmas.List.{append-nil}
use Rattle.channel_safety.proofs.Tests.{clash}
use Rattle.channel_safety.specs.Held.{held, note, show}
use Rattle.share_laws.specs.Places.{Order, opened_part, plan, channels, listed, possible_after, is_held, last_made, possible, counting_among, counting, balances, share}
use Rattle.share_laws.specs.Kept.{is_signing}
use Rattle.channel_values.specs.Outcomes.{AreApart}
use Rattle.share_laws.specs.ShareLaws.{moves_funds}
use Rattle.share_laws.specs.Bases.{all_bases}
use Rattle.share_laws.specs.Turns.{names, Turns}
use Rattle.share_laws.specs.Whole.{TurnsKeepShares, LinesKeepShares}
use Rattle.share_laws.proofs.Final.{final-stays, final-settled}
use Rattle.share_laws.proofs.Growing.{share_grows}
use Rattle.share_laws.proofs.Turning.{follows}
use Rattle.channel_safety.proofs.Keeps.{HoldsNewer, extended-newer, show-newer}
use Rattle.channel_safety.proofs.Places.{over-entries, over-lines}
use Rattle.std.specs.Str.{bytes_eq}

-- ---- what is held stays held

as-newer : (r : Rules) (f : FixedParts) (st : Option Marked) → is_held r f st ≡ true → HoldsNewer r f 0 st
as-newer r f None h = cc
as-newer r f (Some w) h = record { latest = w; is = refl; chain = h; up = omega arith }

from-newer : (r : Rules) (f : FixedParts) (st : Option Marked) → HoldsNewer r f 0 st → is_held r f st ≡ true
from-newer r f st h = subst (λ (x : Option Marked). is_held r f x ≡ true) (sym h.is) h.chain

note-held : (r : Rules) (f : FixedParts) (x : Line) (st : Option Marked) → is_held r f st ≡ true → is_held r f (note r f x st) ≡ true
note-held r f x None h = cc
note-held r f x (Some w) h = from-newer r f _ (extended-newer r f 0 (noted_in (r.named f) x.deed) w h (omega arith))

show-held : (r : Rules) (f : FixedParts) (chain : Marked) (st : Option Marked) → is_held r f st ≡ true → is_held r f (show r f chain st) ≡ true
show-held r f chain st h = from-newer r f _ (show-newer r f 0 chain st (as-newer r f st h))

pub held-over_entry : (r : Rules) (f : FixedParts) (past : List Entry) (e : Entry) (front : List Line) → is_held r f (held r f past front) ≡ true → is_held r f (held r f (e ∷ past) front) ≡ true
held-over_entry r f past e front h =
    over-entries r f (λ st. is_held r f st ≡ true) (e ∷ []) past front (λ x i st p. note-held r f x st p) (λ l1 l2 k st s p. show-held r f (shown r (r.named f) (l2 ++ past) k) st p) h

pub held-over_line : (r : Rules) (f : FixedParts) (past : List Entry) (x : Line) (front : List Line) → (is_watched x.deed ≡ false → length past ≤ x.seen) →
    is_held r f (held r f past front) ≡ true → is_held r f (held r f past (x ∷ front)) ≡ true
held-over_line r f past x front rising h =
    over-lines r f (λ st. is_held r f st ≡ true) (x ∷ []) past front (λ y i st p. note-held r f y st p) rise h
  where
    rise : (y : Line) → In y (x ∷ []) → is_watched y.deed ≡ false → length past ≤ y.seen
    rise y (inl is) w = subst (λ (z : Line). length past ≤ z.seen) (sym is) (rising (subst (λ (z : Line). is_watched z.deed ≡ false) is w))
    rise y (inr i) w = absurd i

-- ---- an entry that moves no funds

no_funds : (op : Op) (reply : Reply) → moves_funds op ≡ false → (flow_of op reply ≡ []) × (payment_of op reply ≡ [])
no_funds (ops.Call (Deposit d)) reply h = cc
no_funds (ops.Call (Transfer t)) reply h = cc
no_funds (ops.Call (Claim k)) reply h = cc
no_funds op reply h = (refl, refl)

module _ (asset : ℕ) (me : List ℕ) (on : List (List ℕ)) (n : List ℕ) where
  -- what a channel can end with, by whether it is held and final before and now, and the last state
  goes_on : (h k a b : Bool) (rest now : Option (List AssetOutcome)) (last : Option Signed) → (h ≡ true → k ≡ true) → (a ≡ true → b ≡ true) → (a ≡ true → now ≡ rest) →
      (a ≡ false → b ≡ true → Turns asset me on n (cond h (possible_after a rest last) []) (cond k (possible_after b now last) [])) →
      Turns asset me on n (cond h (possible_after a rest last) []) (cond k (possible_after b now last) [])
  goes_on false k a b rest now last hk ab same ends = inl refl
  goes_on true false a b rest now last hk ab same ends = let e = hk refl in cc
  goes_on true true a b rest now None hk ab same ends = inl refl
  goes_on true true true false rest now (Some s) hk ab same ends = let e = ab refl in cc
  goes_on true true true true rest now (Some s) hk ab same ends = inr (inl (ap (λ (o : Option (List AssetOutcome)). listed o) (same refl)))
  goes_on true true false true rest now (Some s) hk ab same ends = ends refl refl
  goes_on true true false false rest now (Some s) hk ab same ends = inr (inl refl)

-- ---- the next place

pub share_next : (r : Rules) (me : List ℕ) (orders : ℕ → Order) (past now : List Entry) (front newer : List Line) (asset : ℕ) (qs : List Part) (gs : List FixedParts) →
    plan orders front ++ qs ≡ plan orders newer → channels front ++ gs ≡ channels newer → AreApart bytes_eq (names r (channels newer)) →
    ((n : List ℕ) → balances past asset n ≤ balances now asset n) → paid_to past me asset ≤ paid_to now me asset →
    ((f : FixedParts) → In f (channels front) → Turns asset me (all_bases (plan orders front)) (r.named f) (possible r past front f) (possible r now newer f)) →
    share r me orders past front asset ≤ share r me orders now newer asset
share_next r me orders past now front newer asset qs gs parts fixed apart up rise turns =
    subst (λ (ps : List Part). share r me orders past front asset ≤ share_of me (paid_to now me asset) ps (balances now asset) (counting r now newer) asset) parts
    (subst (λ (fs : List FixedParts). share r me orders past front asset ≤ share_of me (paid_to now me asset) (plan orders front ++ qs) (balances now asset) (counting_among r now newer fs) asset) fixed
    (share_grows asset me (plan orders front) qs (balances past asset) (balances now asset) up (counting r past front) (counting_among r now newer (channels front ++ gs))
    (follows asset me (all_bases (plan orders front)) r past now front newer (channels front) gs turns (subst (λ (fs : List FixedParts). AreApart bytes_eq (names r fs)) (sym fixed) apart))
    (paid_to past me asset) (paid_to now me asset) rise))

pub turns_keep : TurnsKeepShares
turns_keep r me orders past e front legal seen apart moves ends asset =
    share_next r me orders past (e ∷ past) front front asset [] [] (append-nil (plan orders front)) (append-nil (channels front)) apart
    (λ n. let p : held_of (e ∷ past) n asset ≡ held_of past n asset = ap (λ (fs : List Flow). held_in (fs ++ flows_of past) n asset) none.0 in omega (arith, p))
    (let p : paid_to (e ∷ past) me asset ≡ paid_to past me asset = ap (λ (fs : List Flow). paid_in (fs ++ flows_of past) me asset) none.0 in omega (arith, p))
    turns
  where
    none : (flow_of e.op e.reply ≡ []) × (payment_of e.op e.reply ≡ [])
    none = no_funds e.op e.reply moves

    same : (n : List ℕ) → is_final (mode r n past) ≡ true → rest_of_channel r n (e ∷ past) ≡ rest_of_channel r n past
    same n final =
        ap (option_map (rest_outcome (paid_of (e ∷ past) n))) (final-settled r n past e legal final)
        ∙ ap (λ (ps : List Payment). option_map (rest_outcome (λ a i. paid_of_item (ps ++ payments_of past) n a i)) (settled r n past)) none.1

    turns : (f : FixedParts) → In f (channels front) → Turns asset me (all_bases (plan orders front)) (r.named f) (possible r past front f) (possible r (e ∷ past) front f)
    turns f i =
        goes_on asset me (all_bases (plan orders front)) (r.named f) (is_held r f (held r f past front)) (is_held r f (held r f (e ∷ past) front))
        (is_final (mode r (r.named f) past)) (is_final (mode r (r.named f) (e ∷ past))) (rest_of_channel r (r.named f) past) (rest_of_channel r (r.named f) (e ∷ past)) (last_made (r.named f) front)
        (held-over_entry r f past e front) (final-stays r (r.named f) past e legal) (same (r.named f)) (ends asset f i)

none_made : (n : List ℕ) (deed : Deed) → is_signing deed ≡ false → made_in n deed ≡ None
none_made n (deeds.Signed channel state signature) h = cc
none_made n deed h = refl

pub lines_keep : LinesKeepShares
lines_keep r me orders past x front rising apart unsigned asset =
    share_next r me orders past past front (x ∷ front) asset (opened_part orders x front) (opened x) refl refl apart (λ n. omega arith) (omega arith) turns
  where
    last : (n : List ℕ) → last_made n (x ∷ front) ≡ last_made n front
    last n = ap (λ (o : Option Signed). option_or o (last_made n front)) (none_made n x.deed unsigned)

    turns : (f : FixedParts) → In f (channels front) → Turns asset me (all_bases (plan orders front)) (r.named f) (possible r past front f) (possible r past (x ∷ front) f)
    turns f i =
        subst (λ (o : Option Signed). Turns asset me (all_bases (plan orders front)) (r.named f) (possible r past front f)
        (cond (is_held r f (held r f past (x ∷ front))) (possible_after (is_final (mode r (r.named f) past)) (rest_of_channel r (r.named f) past) o) [])) (sym (last (r.named f)))
        (goes_on asset me (all_bases (plan orders front)) (r.named f) (is_held r f (held r f past front)) (is_held r f (held r f past (x ∷ front)))
        (is_final (mode r (r.named f) past)) (is_final (mode r (r.named f) past)) (rest_of_channel r (r.named f) past) (rest_of_channel r (r.named f) past) (last_made (r.named f) front)
        (held-over_line r f past x front rising) (λ a. a) (λ a. refl) (λ a b. absurd (clash (is_final (mode r (r.named f) past)) b a)))
