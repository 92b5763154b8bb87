-- Two places of a journal, of which one comes later: what is held of a channel grows.
use Rattle.std.proofs.Common.{◌≡◌, ℕ, ◌-◌, ◌≤◌, Bool, true, false, cond, List, ◌++◌, inr, length, sym, ◌∙◌, ap, subst, arith}
use Rattle.std.proofs.lemmas.List.{append_cancel_right, append_assoc}
use Rattle.std.specs.Prelude.{nat_le, Some, None}
use Rattle.channel_values.specs.Parts.{FixedParts, StateParts}
use Rattle.channel_values.specs.declared.value.AssetOutcome.{AssetOutcome}
use Rattle.channel_safety.proofs.Lists.{In-append_right}
use Rattle.channel_safety.proofs.Tests.{some-eq, true-le}
use Rattle.call_history.specs.Marked.{Marked, marked_of}
use Rattle.call_history.specs.declared.entry.Entry.{Entry}
use Rattle.channel_values.specs.Rules.{newest}
use Rattle.channel_store.specs.Keeping.{is_held}
use Rattle.channel_safety.specs.Held.{held}
use Rattle.channel_safety.specs.Journals.{In, Line, is_watched}
use Rattle.channel_node.proofs.Bridging.{lines-append}
use Rattle.channel_node.proofs.Reaching.{Reaches, reaches-later}
use Rattle.channel_node.specs.Places.{Told, lines_of}
use Rattle.channel_node.specs.Playing.{Signing}
use Rattle.fairness_laws.proofs.Seat.Past.{one-fixed, supported}
use Rattle.fairness_laws.specs.PaymentLaws.{At}
use Rattle.fairness_laws.specs.PlanSeats.{SeatIs}
use Rattle.fairness_laws.specs.PlanSettings.{IsFair}
use Rattle.fairness_laws.proofs.Seat.Held.{tops, top-far, holds-it, final-top}
use Rattle.fairness_laws.proofs.Paying.{reaches-held}
use Rattle.fairness_laws.proofs.Payment.Ended.{ended_stay}
use Rattle.funding_plans.specs.Seats.{Seat, state_is, holds, is_set_up}
use Rattle.support_rules.specs.Real.{real}

-- ---- two places

module _ (s : Signing) (h : List Entry) (journal : List Told) (fair : IsFair s h journal) (later past : List Entry) (newer front : List Told)
    (p : At s h journal past front) (q : At s h journal (later ++ past) (newer ++ front)) where
  abbrev L : List Line
  L = lines_of s.key front

  abbrev M : List Line
  M = lines_of s.key (newer ++ front)

  rising : (y : Line) → In y (lines_of s.key newer) → is_watched y.deed ≡ false → length past ≤ y.seen
  rising y i w = p.place.after y (subst (In y) (sym split) (In-append_right y q.place.newer (lines_of s.key newer) i)) w
    where
      split : p.place.newer ≡ q.place.newer ++ lines_of s.key newer
      split =
          append_cancel_right p.place.newer (q.place.newer ++ lines_of s.key newer) L
          (sym p.place.lines ∙ (q.place.lines ∙ (ap (λ (ls : List Line). q.place.newer ++ ls) (lines-append s.key newer front) ∙ sym (append_assoc q.place.newer (lines_of s.key newer) L))))

  module _ (f g : FixedParts) (o u : List AssetOutcome) (c d : Seat) (sc : SeatIs s.key past L f o c) (named-as : SeatIs s.key (later ++ past) M g u d) (named : real.named f ≡ real.named g) where
    pub fixed-same : f ≡ g
    fixed-same = one-fixed s h journal fair past front p.front_is (later ++ past) (newer ++ front) q.front_is f g sc.own.there named-as.own.there named

    sd : SeatIs s.key (later ++ past) M f u d
    sd = subst (λ (z : FixedParts). SeatIs s.key (later ++ past) M z u d) (sym fixed-same) named-as

    pub people-same : d.people ≡ c.people
    people-same = ap (λ (z : Seat). z.people) sd.is ∙ sym (ap (λ (z : Seat). z.people) sc.is)

    reached : (t : StateParts) → c.top ≡ Some t → Reaches real f t.turn (held real f (later ++ past) M)
    reached t e =
        let w = tops s h journal fair past front p f o c sc t e in
        subst (λ (ls : List Line). Reaches real f t.turn (held real f (later ++ past) ls)) (sym (lines-append s.key newer front))
        (reaches-later real f t.turn (lines_of s.key newer) later past L rising (record {
          w = marked_of sc.kept.chain;
          is = sc.at.chain;
          top = t;
          ends = w.newest_is;
          up = least t.turn;
          good = inr (sym (supported s.key past L f o c sc) ∙ w.held);
        }))
      where
        least : (n : ℕ) → n ≤ n
        least n = omega arith

    -- where a chain is held, one is held later, that ends no earlier
    held-stays : (t : StateParts) → c.top ≡ Some t → is_held sd.kept ≡ true
    held-stays t e =
        reaches-held s h journal fair (later ++ past) (newer ++ front) q f sd.kept sd.at t.turn (top-far s h journal fair past front p f o c sc t (tops s h journal fair past front p f o c sc t e)) (reached t e)

    pub holds-grows : (turn : ℕ) → holds turn c ≡ true → holds turn d ≡ true
    holds-grows turn e =
        let x = holds-it s h journal fair past front p f o c sc turn e in
        let r = reached x.top x.is in
        let top : d.top ≡ Some r.top =
        ap (λ (z : Seat). z.top) sd.is ∙ (ap (λ (b : Bool). cond b (newest sd.kept.chain.states) None) (held-stays x.top x.is)
        ∙ (ap (λ (w : Marked). newest w.states) (some-eq (marked_of sd.kept.chain) r.w (sym sd.at.chain ∙ r.is)) ∙ r.ends)) in
        ap (state_is (λ s. nat_le turn s.turn)) top ∙ true-le turn r.top.turn (above turn x.top.turn r.top.turn x.up r.up)
      where
        above : (a b c : ℕ) → a ≤ b → b ≤ c → a ≤ c
        above a b c g k = omega arith

    pub set-up-grows : is_set_up c ≡ true → is_set_up d ≡ true
    set-up-grows e = subst (λ (n : ℕ). holds (n - 1) d ≡ true) (sym (ap (λ (xs : List (List ℕ)). length xs) people-same)) (holds-grows (length c.people - 1) e)

    -- where all that is held is final, between two people, it stays so
    pub record Ended (t : StateParts) : Type 0 where
      pub final : d.all_final ≡ true
      pub top : StateParts
      pub is : d.top ≡ Some top
      pub same : top.outcome ≡ t.outcome

    pub ended-stays : u ≡ o → length d.people ≡ 2 → c.all_final ≡ true → (t : StateParts) → c.top ≡ Some t → Ended t
    ended-stays opens two e t is =
        let sd' = subst (λ (z : List AssetOutcome). SeatIs s.key (later ++ past) M f z d) opens sd in
        let z = ended_stay s h journal later past newer front fair p q f o c d sc sd' e in
        let top = final-top s h journal fair (later ++ past) (newer ++ front) q f o d sd' (z.ended two) in
        record { final = z.ended two; top = top.0; is = top.1; same = (z.top t top.0 is top.1).1 }
