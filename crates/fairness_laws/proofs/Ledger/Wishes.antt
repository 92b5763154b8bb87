-- What a part on ledgers wants there, and in the channel that says whether they have gone up.
use Rattle.std.proofs.Common.{◌≡◌, ℕ, ◌<◌, ◌≤◌, Bool, true, false, ◌&&◌, ◌||◌, List, ◌⊎◌, inl, inr, length, refl, sym, ◌∙◌, ap, subst, arith}
use Rattle.std.specs.Prelude.{nat_le, Option, Some, None}
use Rattle.std.specs.Str.{bytes_eq}
use Rattle.channel_values.specs.Parts.{FixedParts, StateParts}
use Rattle.channel_safety.proofs.Tests.{clash, and-left, and-right, none-eq}
use Rattle.call_history.proofs.Names.{same_bytes}
use Rattle.call_history.specs.Flows.{is_among}
use Rattle.call_history.specs.declared.entry.Entry.{Entry}
use Rattle.channel_values.specs.Rules.{people}
use Rattle.funding_plans.specs.Parts.{channels_of, ledgers_of, own_ledger, own_guarantor}
use Rattle.funding_plans.specs.declared.plan.Goal.{Goal}
use Rattle.funding_plans.specs.declared.plan.Part.{Part}
use Rattle.funding_plans.specs.declared.plan.Part.TheVariants as kinds
use Rattle.funding_plans.specs.declared.plan.Virtual.{Virtual}
use Rattle.ledger_channel.specs.OnLedgers.{Funded}
use Rattle.ledger_channel.specs.OnLedgers as funded
use Rattle.ledger_channel.specs.Stages.{wanted_on_ledger}
use Rattle.channel_safety.specs.Journals.{In}
use Rattle.channel_node.specs.Minds.{Mind, facts_of}
use Rattle.channel_node.specs.Places.{Told, lines_of, mind_at}
use Rattle.channel_node.specs.Playing.{Signing}
use Rattle.stage_tables.specs.Asked.{wanted_of}
use Rattle.share_laws.specs.Places.{channels}
use Rattle.funding_plans.specs.Seats.{Seat, state_is, holds, has_signed_past, settled_on, up_in}
use Rattle.funding_plans.specs.Rows.{wanted_in}
use Rattle.support_rules.specs.Real.{real}
use Rattle.virtual_channel.specs.Ends.{End, end_rows}
use Rattle.virtual_channel.specs.Ends as ends-of
use Rattle.virtual_channel.specs.Middles.{Middle, middle_rows, is_without, is_settled_back}
use Rattle.virtual_channel.specs.Middles as middles-of
use Rattle.virtual_channel.specs.Stages.{wanted_of_end, wanted_of_middle}
use Rattle.fairness_laws.proofs.Finding.{flips}
use Rattle.fairness_laws.proofs.Truths.{either}
use Rattle.fairness_laws.proofs.Joint.Terms.{ledgers-differ, channel-no_ledger}
use Rattle.fairness_laws.specs.JointKeeping.{EndKeeps, MiddleKeeps, EndsKeep, MiddlesKeep}
use Rattle.fairness_laws.specs.LedgerLending.{Lent, of_funded, of_end}
use Rattle.fairness_laws.specs.LedgerPlaces.{is_ledger, lends_at}
use Rattle.fairness_laws.specs.LedgerWanting.{FundedRow, sets_up, goes_up, posts, finishes, goes_down, WantsOn, MiddleWants}
use Rattle.fairness_laws.specs.LedgerWanting as wanting
use Rattle.fairness_laws.specs.PaymentLaws.{At, ActsNext}
use Rattle.fairness_laws.specs.PlanLaws.{PartAt, PartsAreKnown, PlansAreWhole}
use Rattle.fairness_laws.specs.PlanParts.{OnLedgerIs, EndIs, MiddleIs}
use Rattle.fairness_laws.specs.PlanSettings.{IsFair}
use Rattle.fairness_laws.proofs.Seat.Past.{one-fixed, as-many}
use Rattle.fairness_laws.proofs.EventPlaces.{at-before}
use Rattle.fairness_laws.proofs.Joint.Rows.{EndWants, end-wants, middle-wants}
use Rattle.fairness_laws.proofs.Joint.Rows as rows
use Rattle.fairness_laws.proofs.Rows.{repeats-below}
use Rattle.fairness_laws.proofs.Ledger.Lent.{LendsAt, gate-of, named-for, by-kind, lends-is, child-there, end-there, first-there, second-there, of-a, of-b, named-in, gate-in}
use Rattle.fairness_laws.proofs.Ledger.Plans.{ledger-part, lent-on-ledger}
use Rattle.fairness_laws.proofs.Ledger.Ready.{Rests, part-at, end-keeps, middle-keeps}
use Rattle.fairness_laws.proofs.Ledger.Wanting.{funded_wants, funded_wants_on, end_wants_on, middle_wants_on}
use Rattle.fairness_laws.proofs.Plan.Asked.{plan-is}
use Rattle.fairness_laws.proofs.Plan.Bearers.{end-apart}
use Rattle.fairness_laws.proofs.Plan.Names.{in-among}
use Rattle.fairness_laws.specs.PlanBearers.{bears}

two-three : (n : ℕ) → n < 2 → n < 3
two-three n h = omega arith

below-three : (n m : ℕ) → n < m → m ≤ 3 → n < 3
below-three n m h k = omega arith

-- the channel that says whether the ledger has gone up, and what a ledger sets aside for, are the part's
pub gate-among : (p : Part) → is_among (gate-of p) (channels_of p) ≡ true
gate-among p = in-among (gate-of p) (channels_of p) (gate-in p)

pub named-among : (l : List ℕ) (p : Part) → is_among (named-for l p) (channels_of p) ≡ true
named-among l p = in-among (named-for l p) (channels_of p) (named-in l p)

-- how many people the channel has
abbrev pub gate-size : Part → ℕ
gate-size (kinds.Root c) = 0
gate-size (kinds.OnLedger l c) = 2
gate-size (kinds.End v) = 3
gate-size (kinds.Middle v) = 3

some-own : (test : StateParts → Bool) (o : Option StateParts) → state_is test o ≡ true → (x : StateParts) × (o ≡ Some x)
some-own test None e = absurd (clash false e refl)
some-own test (Some x) e = (x, refl)

-- What a state that a part wants in that channel says. More is to be signed there, and it is of the set-up, or the
-- ledger goes up, or the part closes.
pub record GateWants (p : Part) (k : Lent) (s : StateParts) : Type 0 where
  pub going : Rests p k → ⊥
  pub why : (s.turn < gate-size p) ⊎ (((k.closing ≡ false) × ((k.is_up ≡ true) ⊎ (settled_on (up_in k.child k.ledger) k.ledger ≡ true))) ⊎ (k.closing ≡ true))

or-split : (a b : Bool) → (a || b) ≡ true → (a ≡ true) ⊎ (b ≡ true)
or-split true b e = inl refl
or-split false b e = inr e

module _ (s : Signing) (h : List Entry) (journal : List Told) (fair : IsFair s h journal) (known : PartsAreKnown) (whole : PlansAreWhole) (ends : EndsKeep) (middles : MiddlesKeep)
    (past : List Entry) (x : Told) (front : List Told) (next : ActsNext s h journal past x front) where
  abbrev m : Mind
  m = mind_at real s.key past front

  at : At s h journal past front
  at = at-before s h journal fair past x front next

  there-too : (p q : Part) → q ≡ p → In p m.parts → In q m.parts
  there-too p q same i = subst (λ (z : Part). In z m.parts) (sym same) i

  -- ---- names

  -- a channel of a part that isn't the part's own isn't one
  pub no-ledger : (p : Part) → In p m.parts → (c : List ℕ) → bears c p ≡ false → is_among c (channels_of p) ≡ true → is_ledger s.key journal c ≡ false
  no-ledger p i c off among = go (either (is_ledger s.key journal c))
    where
      go : (is_ledger s.key journal c ≡ true) ⊎ (is_ledger s.key journal c ≡ false) → is_ledger s.key journal c ≡ false
      go (inl on) = absurd (clash (bears c p) (ledger-part s h journal fair whole past front next.place p i c among on) off)
      go (inr none) = none

  -- so it has another name than a ledger
  other-name : (c d : List ℕ) → is_ledger s.key journal c ≡ false → is_ledger s.key journal d ≡ true → bytes_eq c d ≡ false
  other-name c d off on = go (bytes_eq c d) refl
    where
      go : (b : Bool) → bytes_eq c d ≡ b → b ≡ false
      go true e = absurd (clash (is_ledger s.key journal c) (ap (is_ledger s.key journal) (same_bytes c d e) ∙ on) off)
      go false e = refl

  -- the channel of an end is neither its joint channel nor its guarantor
  pub end-differs : (v : Virtual) → In (kinds.End v) m.parts → (bytes_eq v.channel v.joint ≡ false) × (bytes_eq v.channel (own_guarantor v) ≡ false)
  end-differs v i = end-apart m.parts (plan-is s h journal fair past front at) v i

  -- that says whether a ledger has gone up is no ledger
  pub gate-off : (p : Part) → In p m.parts → (l : List ℕ) (k : Lent) → lends_at s past front l p ≡ Some k → bears (gate-of p) p ≡ false
  gate-off (kinds.Root c) i l k is = absurd (none-eq k is)
  gate-off (kinds.OnLedger m c) i l k is = refl
  gate-off (kinds.End v) i l k is = (end-differs v i).0
  gate-off (kinds.Middle v) i l k is = refl

  module _ (p : Part) (i : In p m.parts) (l : List ℕ) (k : Lent) (is : lends_at s past front l p ≡ Some k) where
    pub lent-is : LendsAt s past front l p k
    lent-is = lends-is s past front p (part-at s h journal fair known ends middles past front at p i) l k is

    pub ledger-is : is_ledger s.key journal l ≡ true
    ledger-is = lent-on-ledger s h journal fair whole past front next.place p (part-at s h journal fair known ends middles past front at p i) i l k is

  -- a part stands on its ledgers
  pub stands-lent : (p : Part) → In p m.parts → (l : List ℕ) → In l (ledgers_of p) → (k : Lent) × (lends_at s past front l p ≡ Some k)
  stands-lent p i l on = by p (part-at s h journal fair known ends middles past front at p i) on
    where
      by : (p : Part) → PartAt s past front p → In l (ledgers_of p) → (k : Lent) × (lends_at s past front l p ≡ Some k)
      by (kinds.Root c) y j = absurd j
      by (kinds.OnLedger n c) y (inl e) =
          (of_funded y.is.funded, subst (λ (z : List ℕ). lends_at s past front z (kinds.OnLedger n c) ≡ Some (of_funded y.is.funded)) (sym e) (child-there s past front n c y.goal y.is))
      by (kinds.OnLedger n c) y (inr j) = absurd j
      by (kinds.End v) y (inl e) =
          (of_end y.is.end, subst (λ (z : List ℕ). lends_at s past front z (kinds.End v) ≡ Some (of_end y.is.end)) (sym e) (end-there s past front v y.goal y.is))
      by (kinds.End v) y (inr j) = absurd j
      by (kinds.Middle v) y (inl e) =
          (of-a y.is.middle, subst (λ (z : List ℕ). lends_at s past front z (kinds.Middle v) ≡ Some (of-a y.is.middle)) (sym e) (first-there s past front v y.goal y.is))
      by (kinds.Middle v) y (inr (inl e)) = go (either (bytes_eq v.ledger_a l))
        where
          go : (bytes_eq v.ledger_a l ≡ true) ⊎ (bytes_eq v.ledger_a l ≡ false) → (k : Lent) × (lends_at s past front l (kinds.Middle v) ≡ Some k)
          go (inl same) =
              (of-a y.is.middle, subst (λ (z : List ℕ). lends_at s past front z (kinds.Middle v) ≡ Some (of-a y.is.middle)) (same_bytes v.ledger_a l same) (first-there s past front v y.goal y.is))
          go (inr differ) = (
            of-b y.is.middle,
            subst (λ (z : List ℕ). lends_at s past front z (kinds.Middle v) ≡ Some (of-b y.is.middle)) (sym e)
                (second-there s past front v y.goal y.is (subst (λ (z : List ℕ). bytes_eq v.ledger_a z ≡ false) e differ)),
          )
      by (kinds.Middle v) y (inr (inr j)) = absurd j

  -- the people of the channel that says whether the ledger has gone up
  pub gate-people : (p : Part) (i : In p m.parts) (l : List ℕ) (k : Lent) → lends_at s past front l p ≡ Some k → (f : FixedParts) → In f (channels (lines_of s.key front)) → real.named f ≡ gate-of p
      → people f ≡ gate-size p
  gate-people p i l k is =
      by-kind s past front (λ (l : List ℕ) (p : Part) (k : Lent). (f : FixedParts) → In f (channels (lines_of s.key front)) → real.named f ≡ gate-of p → people f ≡ gate-size p) p
      (part-at s h journal fair known ends middles past front at p i)
      (λ l c g o same found f j named. ap people (one f o.fixed j o.seat.own.there (named ∙ sym o.named)) ∙ (sym (as-many o.fixed) ∙ ap length o.people))
      (λ v g y same found f j named. ap people (one f y.joint.fixed j y.joint.seat.own.there (named ∙ sym y.joint.named)) ∙ (sym (as-many y.joint.fixed) ∙ ap length y.joint.people))
      (λ v g y same found f j named. ap people (one f y.joint.fixed j y.joint.seat.own.there (named ∙ sym y.joint.named)) ∙ (sym (as-many y.joint.fixed) ∙ ap length y.joint.people))
      (λ v g y same found differ f j named. ap people (one f y.joint.fixed j y.joint.seat.own.there (named ∙ sym y.joint.named)) ∙ (sym (as-many y.joint.fixed) ∙ ap length y.joint.people))
      l k is
    where
      one : (f g : FixedParts) → In f (channels (lines_of s.key front)) → In g (channels (lines_of s.key front)) → real.named f ≡ real.named g → f ≡ g
      one f g j o same = one-fixed s h journal fair past front next.place past front next.place f g j o same

  -- names that differ
  as-named : (a b c d : List ℕ) → a ≡ c → b ≡ d → bytes_eq c d ≡ false → bytes_eq a b ≡ false
  as-named a b c d e f differ = ap (λ (n : List ℕ). bytes_eq n b) e ∙ (ap (bytes_eq c) f ∙ differ)

  module _ (v : Virtual) (g : Goal) (y : EndIs s.key past (lines_of s.key front) (facts_of m) v g) where
    joint-named : y.end.joint.name ≡ v.joint
    joint-named = ap (λ (z : Seat). z.name) y.joint.seat.is ∙ y.joint.named

    channel-named : y.end.channel.name ≡ v.channel
    channel-named = ap (λ (z : Seat). z.name) y.seat.is ∙ y.named

    ledger-named : y.end.ledger.name ≡ own_ledger v
    ledger-named = ap (λ (z : Seat). z.name) y.on.seat.is ∙ y.on.named

    guarantor-named : y.end.guarantor.name ≡ own_guarantor v
    guarantor-named = ap (λ (z : Seat). z.name) y.guarantor.seat.is ∙ y.guarantor.named

  module _ (v : Virtual) (g : Goal) (y : MiddleIs s.key past (lines_of s.key front) (facts_of m) v g) where
    middle-joint-named : y.middle.joint.name ≡ v.joint
    middle-joint-named = ap (λ (z : Seat). z.name) y.joint.seat.is ∙ y.joint.named

    first-named : y.middle.ledger_a.name ≡ v.ledger_a
    first-named = ap (λ (z : Seat). z.name) y.on_a.seat.is ∙ y.on_a.named

    second-named : y.middle.ledger_b.name ≡ v.ledger_b
    second-named = ap (λ (z : Seat). z.name) y.on_b.seat.is ∙ y.on_b.named

  -- ---- what a part wants in the channel that says whether its ledgers have gone up

  module _ (state : StateParts) where
    child-wants : (l c : List ℕ) (g : Goal) (o : OnLedgerIs s.key past (lines_of s.key front) (facts_of m) l c g) → is_ledger s.key journal c ≡ false → is_ledger s.key journal l ≡ true
        → FundedRow o.funded c state → GateWants (kinds.OnLedger l c) (of_funded o.funded) state
    child-wants l c g o off on (sets_up n running w) = record { going = λ r. r; why = inl (repeats-below 0 2 o.funded.channel state w) }
    child-wants l c g o off on (goes_up n running settled w) =
        absurd (clash (bytes_eq o.funded.ledger.name c) n (as-named o.funded.ledger.name c l c (ap (λ (z : Seat). z.name) o.on.seat.is ∙ o.on.named) refl (flips c l (other-name c l off on))))
    child-wants l c g o off on (posts n running settled w) =
        record { going = λ r. r; why = inr (inl (running, or-split (has_signed_past o.funded.channel) (settled_on (funded.target_up o.funded) o.funded.ledger) settled)) }
    child-wants l c g o off on (finishes n closing w) = record { going = λ r. r; why = inr (inr closing) }
    child-wants l c g o off on (goes_down n closing final yet w) =
        absurd (clash (bytes_eq o.funded.ledger.name c) n (as-named o.funded.ledger.name c l c (ap (λ (z : Seat). z.name) o.on.seat.is ∙ o.on.named) refl (flips c l (other-name c l off on))))

    end-row : (v : Virtual) (g : Goal) (y : EndIs s.key past (lines_of s.key front) (facts_of m) v g) → EndKeeps g y.end → bytes_eq y.end.ledger.name v.joint ≡ false → bytes_eq y.end.channel.name v.joint ≡ false
        → EndWants y.end v.joint state → GateWants (kinds.End v) (of_end y.end) state
    end-row v g y keeps dl dc row = go row
      where
        p : End
        p = y.end

        running-yet : p.closing ≡ false → Rests (kinds.End v) (of_end p) → ⊥
        running-yet running r = clash p.closing (and-left p.closing (state_is (is_without p.terms) p.joint.own) r) running

        up-as : ends-of.is_settled_up p ≡ true → (has_signed_past p.joint ≡ true) ⊎ (settled_on (up_in p.child p.ledger) p.ledger ≡ true)
        up-as up = or-split (has_signed_past p.joint) (settled_on (up_in p.child p.ledger) p.ledger) up

        go : EndWants p v.joint state → GateWants (kinds.End v) (of_end p) state
        go (rows.guarantees running unset n w) = record { going = running-yet running; why = inl (two-three state.turn (repeats-below 0 2 p.guarantor state w)) }
        go (rows.splits from until small running soon (inl first) n w) = record { going = running-yet running; why = inl (below-three state.turn until (repeats-below from until p.joint state w) first) }
        go (rows.splits from until small running soon (inr up) n w) = record { going = running-yet running; why = inr (inl (running, up-as up)) }
        go (rows.opens from until small early n w) = absurd (clash (bytes_eq p.channel.name v.joint) n dc)
        go (rows.ups running set settled n w) = absurd (clash (bytes_eq p.ledger.name v.joint) n dl)
        go (rows.joins running set up five together n w) = record { going = running-yet running; why = inr (inl (running, up-as up)) }
        go (rows.finals closing unended n w) = absurd (clash (bytes_eq p.channel.name v.joint) n dc)
        go (rows.parts closing final back n w) = record {
          going = λ r. clash (settled_on (ends-of.target_back p) p.joint) (sym (keeps.without closing) ∙ and-right p.closing (state_is (is_without p.terms) p.joint.own) r) back;
          why = inr (inr closing);
        }
        go (rows.downs closing final settled yet n w) = absurd (clash (bytes_eq p.ledger.name v.joint) n dl)

    module _ (v : Virtual) (g : Goal) (y : MiddleIs s.key past (lines_of s.key front) (facts_of m) v g) (keeps : MiddleKeeps g y.middle)
        (da : bytes_eq y.middle.ledger_a.name v.joint ≡ false) (db : bytes_eq y.middle.ledger_b.name v.joint ≡ false) (row : rows.MiddleWants y.middle v.joint state) where
      abbrev q : Middle
      q = y.middle

      middle-going : Rests (kinds.Middle v) (of-a q) → ⊥
      middle-going rests = go row
        where
          late : q.closing ≡ true → is_settled_back q ≡ false → ⊥
          late closing back = by rests
            where
              by : Rests (kinds.Middle v) (of-a q) → ⊥
              by (inl falls) = clash (is_settled_back q) (and-right q.closing (is_settled_back q) falls) back
              by (inr r) = clash q.closing closing r.0

          -- until Close it is settled together, past the set-up and the round after it
          running-yet : q.closing ≡ false → (settled_on (middles-of.target_together q) q.joint ≡ true → ⊥) → ⊥
          running-yet running never = by rests
            where
              by : Rests (kinds.Middle v) (of-a q) → ⊥
              by (inl falls) = clash q.closing (and-left q.closing (is_settled_back q) falls) running
              by (inr r) = never r.1

          past-it : settled_on (middles-of.target_together q) q.joint ≡ true → has_signed_past q.joint ≡ true
          past-it settled = keeps.past (inr settled)

          no-set-up : q.closing ≡ false → middles-of.are_set_up q ≡ false → ⊥
          no-set-up running set = running-yet running (λ settled. clash (middles-of.are_set_up q) (keeps.set_up (inr (past-it settled))) set)

          go : rows.MiddleWants q v.joint state → ⊥
          go (rows.guarantees_a running unset n w) = no-set-up running unset
          go (rows.guarantees_b running unset n w) = no-set-up running unset
          go (rows.splits from until small running (inl first) risen n w) = no-set-up running first.1
          go (rows.splits from until small running (inr later) risen n w) =
              running-yet running (λ settled.
              let o = some-own (λ s. nat_le (length q.joint.people) s.turn) q.joint.own (past-it settled) in
              clash (holds 5 q.joint) (keeps.joined running settled o.0 o.1).1 later.1)
          go (rows.ups_a running set settled n w) = clash (bytes_eq q.ledger_a.name v.joint) n da
          go (rows.ups_b running set settled n w) = clash (bytes_eq q.ledger_b.name v.joint) n db
          go (rows.joins running set up five together n w) = running-yet running (λ settled. clash (settled_on (middles-of.target_together q) q.joint) settled together)
          go (rows.parts closing back n w) = late closing back
          go (rows.downs_a closing back not-down n w) = clash (bytes_eq q.ledger_a.name v.joint) n da
          go (rows.downs_b closing back not-down n w) = clash (bytes_eq q.ledger_b.name v.joint) n db

      middle-why : (t : Bool) → ((settled_on (up_in q.child_a q.ledger_a) q.ledger_a && settled_on (up_in q.child_b q.ledger_b) q.ledger_b) ≡ true → t ≡ true)
          → (state.turn < 3) ⊎ (((q.closing ≡ false) × ((has_signed_past q.joint ≡ true) ⊎ (t ≡ true))) ⊎ (q.closing ≡ true))
      middle-why t settled = go row
        where
          up-as : middles-of.is_settled_up q ≡ true → (has_signed_past q.joint ≡ true) ⊎ (t ≡ true)
          up-as up = by (or-split (has_signed_past q.joint) (settled_on (up_in q.child_a q.ledger_a) q.ledger_a && settled_on (up_in q.child_b q.ledger_b) q.ledger_b) up)
            where
              by : (has_signed_past q.joint ≡ true) ⊎ ((settled_on (up_in q.child_a q.ledger_a) q.ledger_a && settled_on (up_in q.child_b q.ledger_b) q.ledger_b) ≡ true)
                  → (has_signed_past q.joint ≡ true) ⊎ (t ≡ true)
              by (inl e) = inl e
              by (inr e) = inr (settled e)

          go : rows.MiddleWants q v.joint state → (state.turn < 3) ⊎ (((q.closing ≡ false) × ((has_signed_past q.joint ≡ true) ⊎ (t ≡ true))) ⊎ (q.closing ≡ true))
          go (rows.guarantees_a running unset n w) = inl (two-three state.turn (repeats-below 0 2 q.guarantor_a state w))
          go (rows.guarantees_b running unset n w) = inl (two-three state.turn (repeats-below 0 2 q.guarantor_b state w))
          go (rows.splits from until small running soon (inl first) n w) = inl (below-three state.turn until (repeats-below from until q.joint state w) first)
          go (rows.splits from until small running soon (inr up) n w) = inr (inl (running, up-as up))
          go (rows.ups_a running set settled n w) = absurd (clash (bytes_eq q.ledger_a.name v.joint) n da)
          go (rows.ups_b running set settled n w) = absurd (clash (bytes_eq q.ledger_b.name v.joint) n db)
          go (rows.joins running set up five together n w) = inr (inl (running, up-as up))
          go (rows.parts closing back n w) = inr (inr closing)
          go (rows.downs_a closing back not-down n w) = inr (inr closing)
          go (rows.downs_b closing back not-down n w) = inr (inr closing)

      first-row : GateWants (kinds.Middle v) (of-a q) state
      first-row = record {
        going = middle-going;
        why = middle-why (settled_on (up_in q.child_a q.ledger_a) q.ledger_a)
            (and-left (settled_on (up_in q.child_a q.ledger_a) q.ledger_a) (settled_on (up_in q.child_b q.ledger_b) q.ledger_b));
      }

      second-row : GateWants (kinds.Middle v) (of-b q) state
      second-row = record {
        going = middle-going;
        why = middle-why (settled_on (up_in q.child_b q.ledger_b) q.ledger_b)
            (and-right (settled_on (up_in q.child_a q.ledger_a) q.ledger_a) (settled_on (up_in q.child_b q.ledger_b) q.ledger_b));
      }

    pub gate-wants : (p : Part) (i : In p m.parts) (l : List ℕ) (k : Lent) → lends_at s past front l p ≡ Some k → wanted_of (facts_of m) (gate-of p) (Some p) ≡ Some state → GateWants p k state
    gate-wants p i l k is =
        by-kind s past front (λ (l : List ℕ) (p : Part) (k : Lent). is_ledger s.key journal l ≡ true → wanted_of (facts_of m) (gate-of p) (Some p) ≡ Some state → GateWants p k state) p
        (part-at s h journal fair known ends middles past front at p i)
        (λ l c g o same found on w.
        child-wants l c g o (off-of (kinds.OnLedger l c) same refl) on (funded_wants o.funded c state (subst (λ (z : Option Funded). wanted_on_ledger c z ≡ Some state) o.is w)))
        (λ v g y same found on w.
        end-row v g y (end-keeps s h journal fair known ends middles past front at v g (there-too p (kinds.End v) same i) y)
        (as-named y.end.ledger.name v.joint (own_ledger v) v.joint (ledger-named v g y) refl (flips v.joint (own_ledger v) (other-name v.joint (own_ledger v) (off-of (kinds.End v) same (end-differs v (there-too p (kinds.End v) same i)).0) on)))
        (as-named y.end.channel.name v.joint v.channel v.joint (channel-named v g y) refl (end-differs v (there-too p (kinds.End v) same i)).0)
        (end-wants y.end v.joint state (subst (λ (z : Option End). wanted_of_end v.joint z ≡ Some state) y.is w)))
        (λ v g y same found on w.
        first-row v g y (middle-keeps s h journal fair known ends middles past front at v g (there-too p (kinds.Middle v) same i) y) (first-other v g y same) (second-other v g y same) (middle-row v g y w))
        (λ v g y same found differ on w.
        second-row v g y (middle-keeps s h journal fair known ends middles past front at v g (there-too p (kinds.Middle v) same i) y) (first-other v g y same) (second-other v g y same) (middle-row v g y w))
        l k is (ledger-is p i l k is)
      where
        off-of : (q : Part) → q ≡ p → bears (gate-of q) q ≡ false → is_ledger s.key journal (gate-of q) ≡ false
        off-of q same off = no-ledger q (there-too p q same i) (gate-of q) off (gate-among q)

        middle-row : (v : Virtual) (g : Goal) (y : MiddleIs s.key past (lines_of s.key front) (facts_of m) v g) → wanted_of (facts_of m) v.joint (Some (kinds.Middle v)) ≡ Some state
            → rows.MiddleWants y.middle v.joint state
        middle-row v g y w = middle-wants y.middle v.joint state (subst (λ (z : Option Middle). wanted_of_middle v.joint z ≡ Some state) y.is w)

        other : (v : Virtual) → kinds.Middle v ≡ p → (l : List ℕ) (k : Lent) → lends_at s past front l (kinds.Middle v) ≡ Some k → bytes_eq l v.joint ≡ false
        other v same l k is =
            flips v.joint l (other-name v.joint l (off-of (kinds.Middle v) same refl) (ledger-is (kinds.Middle v) (there-too p (kinds.Middle v) same i) l k is))

        first-other : (v : Virtual) (g : Goal) (y : MiddleIs s.key past (lines_of s.key front) (facts_of m) v g) → kinds.Middle v ≡ p → bytes_eq y.middle.ledger_a.name v.joint ≡ false
        first-other v g y same = as-named y.middle.ledger_a.name v.joint v.ledger_a v.joint (first-named v g y) refl (other v same v.ledger_a (of-a y.middle) (first-there s past front v g y))

        second-other : (v : Virtual) (g : Goal) (y : MiddleIs s.key past (lines_of s.key front) (facts_of m) v g) → kinds.Middle v ≡ p → bytes_eq y.middle.ledger_b.name v.joint ≡ false
        second-other v g y same =
            as-named y.middle.ledger_b.name v.joint v.ledger_b v.joint (second-named v g y) refl (other v same v.ledger_b (of-b y.middle) (second-there s past front v g y (ledgers-differ s h journal fair past front next.place (facts_of m) v g y)))

    -- ---- and on a ledger

    pub wants-on : (p : Part) (i : In p m.parts) (l : List ℕ) (k : Lent) → lends_at s past front l p ≡ Some k → wanted_of (facts_of m) l (Some p) ≡ Some state → WantsOn k state
    wants-on p i l k is =
        by-kind s past front (λ (l : List ℕ) (p : Part) (k : Lent). is_ledger s.key journal l ≡ true → wanted_of (facts_of m) l (Some p) ≡ Some state → WantsOn k state) p
        (part-at s h journal fair known ends middles past front at p i)
        (λ l c g o same found on w. of-child l c g o same on w) (λ v g y same found on w. of-an-end v g y same on w)
        (λ v g y same found on w. of-first v g y (of-middle v g y same v.ledger_a on w))
        (λ v g y same found differ on w. of-second v g y differ (of-middle v g y same v.ledger_b on w)) l k is (ledger-is p i l k is)
      where
        off-of : (q : Part) → q ≡ p → (c : List ℕ) → bears c q ≡ false → In c (channels_of q) → is_ledger s.key journal c ≡ false
        off-of q same c off j = no-ledger q (there-too p q same i) c off (in-among c (channels_of q) j)

        of-child : (l c : List ℕ) (g : Goal) (o : OnLedgerIs s.key past (lines_of s.key front) (facts_of m) l c g) → kinds.OnLedger l c ≡ p → is_ledger s.key journal l ≡ true
            → wanted_of (facts_of m) l (Some (kinds.OnLedger l c)) ≡ Some state → WantsOn (of_funded o.funded) state
        of-child l c g o same on w =
            funded_wants_on o.funded state
            (as-named o.funded.channel.name o.funded.ledger.name c l (ap (λ (z : Seat). z.name) o.seat.is ∙ o.named) name-is
            (other-name c l (off-of (kinds.OnLedger l c) same c refl (inl refl)) on))
            (subst (λ (n : List ℕ). wanted_on_ledger n (Some o.funded) ≡ Some state) (sym name-is) (subst (λ (z : Option Funded). wanted_on_ledger l z ≡ Some state) o.is w))
          where
            name-is : o.funded.ledger.name ≡ l
            name-is = ap (λ (z : Seat). z.name) o.on.seat.is ∙ o.on.named

        of-an-end : (v : Virtual) (g : Goal) (y : EndIs s.key past (lines_of s.key front) (facts_of m) v g) → kinds.End v ≡ p → is_ledger s.key journal (own_ledger v) ≡ true
            → wanted_of (facts_of m) (own_ledger v) (Some (kinds.End v)) ≡ Some state → WantsOn (of_end y.end) state
        of-an-end v g y same on w =
            end_wants_on y.end state
            (as-named y.end.channel.name y.end.ledger.name v.channel (own_ledger v) (channel-named v g y) (ledger-named v g y) (channel-no_ledger s h journal fair past front next.place (facts_of m) v g y))
            (as-named y.end.joint.name y.end.ledger.name v.joint (own_ledger v) (joint-named v g y) (ledger-named v g y) (apart v.joint (end-differs v here).0 (inr (inr (inl refl)))))
            (as-named y.end.guarantor.name y.end.ledger.name (own_guarantor v) (own_ledger v) (guarantor-named v g y) (ledger-named v g y)
            (apart (own_guarantor v) (end-differs v here).1 (named-in (own_ledger v) (kinds.End v))))
            (λ closing settled.
            (end-keeps s h journal fair known ends middles past front at v g (there-too p (kinds.End v) same i) y).without closing ∙ settled)
            (subst (λ (n : List ℕ). wanted_in n (end_rows y.end) ≡ Some state) (sym (ledger-named v g y)) (subst (λ (z : Option End). wanted_of_end (own_ledger v) z ≡ Some state) y.is w))
          where
            here : In (kinds.End v) m.parts
            here = there-too p (kinds.End v) same i

            apart : (c : List ℕ) → bytes_eq v.channel c ≡ false → In c (channels_of (kinds.End v)) → bytes_eq c (own_ledger v) ≡ false
            apart c off j = other-name c (own_ledger v) (off-of (kinds.End v) same c off j) on

        of-middle : (v : Virtual) (g : Goal) (y : MiddleIs s.key past (lines_of s.key front) (facts_of m) v g) → kinds.Middle v ≡ p → (l : List ℕ) → is_ledger s.key journal l ≡ true
            → wanted_of (facts_of m) l (Some (kinds.Middle v)) ≡ Some state → MiddleWants y.middle l state
        of-middle v g y same l on w =
            middle_wants_on y.middle l state
            (as-named y.middle.joint.name l v.joint l (middle-joint-named v g y) refl (apart v.joint (inr (inr (inl refl)))))
            (as-named y.middle.guarantor_a.name l v.guarantor_a l (ap (λ (z : Seat). z.name) y.guarantor_a.seat.is ∙ y.guarantor_a.named) refl (apart v.guarantor_a (inl refl)))
            (as-named y.middle.guarantor_b.name l v.guarantor_b l (ap (λ (z : Seat). z.name) y.guarantor_b.seat.is ∙ y.guarantor_b.named) refl (apart v.guarantor_b (inr (inl refl))))
            (subst (λ (z : Option Middle). wanted_of_middle l z ≡ Some state) y.is w)
          where
            apart : (c : List ℕ) → In c (channels_of (kinds.Middle v)) → bytes_eq c l ≡ false
            apart c j = other-name c l (off-of (kinds.Middle v) same c refl j) on

        of-first : (v : Virtual) (g : Goal) (y : MiddleIs s.key past (lines_of s.key front) (facts_of m) v g) → MiddleWants y.middle v.ledger_a state → WantsOn (of-a y.middle) state
        of-first v g y (wanting.first n w) = w
        of-first v g y (wanting.second n w) =
            absurd (clash (bytes_eq y.middle.ledger_b.name v.ledger_a) n
            (as-named y.middle.ledger_b.name v.ledger_a v.ledger_b v.ledger_a (second-named v g y) refl (flips v.ledger_a v.ledger_b (ledgers-differ s h journal fair past front next.place (facts_of m) v g y))))

        of-second : (v : Virtual) (g : Goal) (y : MiddleIs s.key past (lines_of s.key front) (facts_of m) v g) → bytes_eq v.ledger_a v.ledger_b ≡ false → MiddleWants y.middle v.ledger_b state
            → WantsOn (of-b y.middle) state
        of-second v g y differ (wanting.first n w) =
            absurd (clash (bytes_eq y.middle.ledger_a.name v.ledger_b) n (as-named y.middle.ledger_a.name v.ledger_b v.ledger_a v.ledger_b (first-named v g y) refl differ))
        of-second v g y differ (wanting.second n w) = w
