-- What the set-up of a ledger wants repeats an outcome with which it could end, or is its first state, while nothing
-- stands on it.
use Rattle.std.proofs.Common.{◌≡◌, ◌≢◌, ℕ, ◌+◌, ◌*◌, ◌<◌, ◌≤◌, Bool, true, false, ◌&&◌, not, ◌⊎◌, List, [], inl, inr, length, refl, sym, ◌∙◌, ap, subst, arith}
use Rattle.std.proofs.lemmas.Bool.Decides.{nat_tests}
use Rattle.std.specs.Prelude.{nat_le, nat_lt, Option, Some, None}
use Rattle.std.specs.Option.{option_map}
use Rattle.channel_values.specs.Outcomes.{IsOutcome}
use Rattle.channel_values.specs.Parts.{FixedParts, StateParts, IsState, state_with}
use Rattle.channel_values.specs.declared.chain.Signed.{Signed}
use Rattle.channel_values.specs.declared.value.AssetOutcome.{AssetOutcome}
use Rattle.support_rules.specs.Rules.{is_same_outcome}
use Rattle.channel_safety.proofs.Tests.{some-eq, and-left, and-right, cond-true, clash, lt-true, le-true}
use Rattle.call_history.proofs.Names.{same_bytes}
use Rattle.call_history.specs.Marked.{Marked, marked_of, is_supported, next_after}
use Rattle.call_history.specs.declared.entry.Entry.{Entry}
use Rattle.channel_values.specs.Rules.{people}
use Rattle.channel_store.specs.Keeping.{is_held}
use Rattle.channel_store.specs.declared.kept.Kept.{Kept}
use Rattle.funding_plans.specs.Parts.{ledgers_of}
use Rattle.funding_plans.specs.declared.plan.Goal.{Goal}
use Rattle.funding_plans.specs.declared.plan.Part.{Part}
use Rattle.funding_plans.specs.declared.plan.Part.TheVariants.{Root, OnLedger, End, Middle}
use Rattle.funding_plans.specs.declared.plan.Virtual.{Virtual}
use Rattle.fairness_laws.proofs.Ledger.Plans.{ledger-app}
use Rattle.fairness_laws.proofs.Apps.{no-payments}
use Rattle.fairness_laws.proofs.Ledger.Lent.{by-kind}
use Rattle.fairness_laws.proofs.EventPlaces.{at-before}
use Rattle.fairness_laws.proofs.Seat.Held.{held-top, tops, top-could, top-valid}
use Rattle.fairness_laws.proofs.Seat.Past.{signed-held, supported, people-are, one-fixed}
use Rattle.fairness_laws.specs.LedgerLending.{Lent, lent}
use Rattle.fairness_laws.specs.LedgerPlaces.{is_ledger, own_at}
use Rattle.fairness_laws.specs.LedgerEvents.{SetUpsStart}
use Rattle.channel_safety.proofs.Members.{In-append_right}
use Rattle.channel_safety.specs.Strings.{signed_of}
use Rattle.channel_safety.specs.Journals.{In, Line, made_in}
use Rattle.network.specs.declared.command.Command.TheVariants as commands
use Rattle.channel_node.specs.Minds.{Mind, facts_of}
use Rattle.channel_node.specs.Places.{Told, lines_of, mind_at}
use Rattle.channel_node.specs.Playing.{Signing}
use Rattle.fairness_laws.proofs.Ledger.Full.{ledger-held}
use Rattle.fairness_laws.proofs.OpenedVirtuals.{end-opened}
use Rattle.channel_safety.proofs.Places.{made-noted}
use Rattle.fairness_laws.proofs.Payment.Made.{made-deed}
use Rattle.fairness_laws.proofs.OpenedParts.{later-took, root-opened}
use Rattle.fairness_laws.specs.PaymentLaws.{At, ActsNext}
use Rattle.fairness_laws.proofs.Plan.Names.{in-among}
use Rattle.fairness_laws.proofs.Plan.Parts.{parts_are_known}
use Rattle.fairness_laws.proofs.Plan.Plans.{plans_are_whole}
use Rattle.fairness_laws.specs.PlanBearers.{bears}
use Rattle.fairness_laws.specs.PlanLaws.{PartAt}
use Rattle.fairness_laws.specs.PlanSeats.{SeatIs}
use Rattle.fairness_laws.specs.PlanSettings.{IsFair}
use Rattle.share_laws.proofs.Fronts.{last-line}
use Rattle.share_laws.specs.Places.{last_made, outcomes_of}
use Rattle.funding_plans.specs.Gathered.{goal_in}
use Rattle.funding_plans.specs.Seats.{Seat, is_turn, repeats}
use Rattle.funding_plans.specs.Limits.{is_valid}
use Rattle.support_rules.specs.Real.{real}
use Rattle.support_rules.proofs.ConsensusLaws.{same_outcome}
use Rattle.fairness_laws.proofs.RootOpening.{open-goal, roots_open_with}
use Rattle.fairness_laws.proofs.RootWishes.{Whens, when-some}
use Rattle.fairness_laws.specs.Carried.{OpensWith, IsRepeatedIfAny}
use Rattle.fairness_laws.specs.Roots.{is_repeated}
use Rattle.fairness_laws.proofs.Channels.{channel-of, carried}

-- ---- small things

repeated-spells : (o : List AssetOutcome) (t : StateParts) → is_repeated o t ≡ true → is_same_outcome t.outcome o ≡ true
repeated-spells o t e = and-right (not t.is_final) (is_same_outcome t.outcome o) (and-left (not t.is_final && is_same_outcome t.outcome o) _ e)

below : (a n : ℕ) → (n ≤ a + 1 → ⊥) → a < n
below a n far = go (nat_le n (a + 1)) refl
  where
    go : (b : Bool) → nat_le n (a + 1) ≡ b → a < n
    go true e = absurd (far (le-true n (a + 1) e))
    go false e = grind (arith, nat_tests)

-- ---- a place

module _ (s : Signing) (h : List Entry) (journal : List Told) (fair : IsFair s h journal) (past : List Entry) (x : Told) (front : List Told)
    (next : ActsNext s h journal past x front) where
  at-here : At s h journal past front
  at-here = at-before s h journal fair past x front next

  abbrev m : Mind
  m = mind_at real s.key past front

  abbrev lines : List Line
  lines = lines_of s.key front

  -- a part for which a ledger sets something aside stands on it
  stands-on : (p : Part) → In p m.parts → (l : List ℕ) (k : Lent) → lent (facts_of m) l p ≡ Some k → In l (ledgers_of p)
  stands-on p i l k lends =
      by-kind s past front (λ (n : List ℕ) (q : Part) (j : Lent). In n (ledgers_of q)) p (parts_are_known s h journal past front fair.nodes next.place p i)
      (λ n c g o same found. inl refl) (λ v g e same found. inl refl) (λ v g y same found. inl refl) (λ v g y same found differ. inr (inl refl)) l k lends

  module _ (b : Part) (r : List ℕ) (g : Goal) (i : In b m.parts) (bearing : bears r b ≡ true) (found : goal_in (facts_of m) r ≡ Some g) (on : is_ledger s.key journal r ≡ true)
      (f : FixedParts) (c : Seat) (seat : SeatIs s.key past lines f g.opening c) (named : real.named f ≡ r) where
    abbrev k : Kept
    k = seat.kept

    opens : OpensWith f g.opening (lines_of s.key journal)
    opens = by b i bearing
      where
        of-end : (v : Virtual) → In (End v) m.parts → v.channel ≡ r → PartAt s past front (End v) → OpensWith f g.opening (lines_of s.key journal)
        of-end v j same y =
            let goal-is = some-eq y.goal g (sym y.found ∙ subst (λ (n : List ℕ). goal_in (facts_of m) n ≡ Some g) (sym same) found) in
            subst (λ (z : FixedParts). OpensWith z g.opening (lines_of s.key journal))
            (one-fixed s h journal fair past front next.place past front next.place y.is.fixed f y.is.seat.own.there seat.own.there (y.is.named ∙ (same ∙ sym named)))
            (subst (λ (o : List AssetOutcome). OpensWith y.is.fixed o (lines_of s.key journal)) (ap (λ (z : Goal). z.opening) goal-is) (end-opened s h journal fair past front at-here v y.goal j y.is).opens)

        by : (q : Part) → In q m.parts → bears r q ≡ true → OpensWith f g.opening (lines_of s.key journal)
        by (Root n) j e =
            let ro = root-opened s h journal fair past front at-here r g (subst (λ (z : List ℕ). In (Root z) m.parts) (same_bytes n r e) j) found f seat.own.there named in
            subst (λ (o : List AssetOutcome). OpensWith f o (lines_of s.key journal)) (sym (open-goal f ro.outcome g ro.goal))
            (roots_open_with s h journal fair.nodes.legal fair.nodes.plays f ro.outcome (later-took s h journal fair past front at-here (commands.Open f ro.outcome) ro.took))
        by (OnLedger l n) j e = absurd (clash false e refl)
        by (End v) j e = of-end v j (same_bytes v.channel r e) (parts_are_known s h journal past front fair.nodes next.place (End v) j)
        by (Middle v) j e = absurd (clash false e refl)

    own-is : (o : Option Signed) → last_made (real.named f) lines ≡ o → own_at s.key journal front r ≡ option_map (λ t. t.state) o
    own-is o e =
        cond-true (is_ledger s.key journal r) (option_map (λ t. t.state) (last_made r lines)) None on
        ∙ ap (option_map (λ t. t.state)) (ap (λ (n : List ℕ). last_made n lines) (sym named) ∙ e)

    -- ---- what it wants

    module _ (from until : ℕ) (state : StateParts) (valid : IsState state) (few : until ≤ 2 * length c.people) (wants : repeats from until c ≡ Some state) where
      abbrev Answer : Type 0
      Answer =
          ((last : StateParts) × (own_at s.key journal front r ≡ Some last) × In state.outcome (outcomes_of last))
          ⊎ ((own_at s.key journal front r ≡ None) × ((p : Part) (j : Lent) → In p m.parts → lent (facts_of m) r p ≡ Some j → ⊥))

      w : Whens (nat_le from c.next && nat_lt c.next until && is_turn c && is_valid c.opening) (state_with c.next false c.opening []) state
      w = when-some (nat_le from c.next && nat_lt c.next until && is_turn c && is_valid c.opening) (state_with c.next false c.opening []) state wants

      outcome-is : state.outcome ≡ g.opening
      outcome-is = ap (λ (t : StateParts). t.outcome) (sym w.is) ∙ ap (λ (z : Seat). z.opening) seat.is

      small : c.next < 2 * people f
      small =
          let turns = and-left (nat_le from c.next && nat_lt c.next until) (is_turn c) (and-left (nat_le from c.next && nat_lt c.next until && is_turn c) (is_valid c.opening) w.holds) in
          let l : c.next < until = lt-true c.next until (and-right (nat_le from c.next) (nat_lt c.next until) turns) in
          let n : length c.people ≡ people f = people-are s.key past lines f g.opening c seat in
          omega (arith, few)

      -- what repeats the opening outcome has it
      same-as : (t : StateParts) → IsState t → is_repeated g.opening t ≡ true → state.outcome ≡ t.outcome
      same-as t tv e =
          outcome-is ∙ sym (same_outcome t.outcome g.opening tv.outcome (subst IsOutcome outcome-is valid.outcome) (repeated-spells g.opening t e))

      -- where a chain is held
      when-held : is_held k ≡ true → Answer
      when-held e =
          let q = held-top s h journal fair past front at-here f g.opening c seat e in
          let top : StateParts = q.0 in
          let t = tops s h journal fair past front at-here f g.opening c seat top q.1 in
          let next-is : c.next ≡ top.turn + 1 = ap (λ (z : Seat). z.next) seat.is ∙ ap next_after t.newest_is in
          let low : c.next < 2 * people f = small in
          let repeated : is_repeated g.opening top ≡ true =
          (subst (IsRepeatedIfAny f g.opening) seat.at.chain
          (carried s h journal fair past front at-here f g.opening (channel-of s h journal past front at-here f seat.own.there k.me seat.mine) opens)) top t.newest_is (omega arith) in
          inl (
            t.last.state,
            own-is (Some t.last) t.is,
            subst (λ (o : List AssetOutcome). In o (outcomes_of t.last.state))
                (sym (same-as top (top-valid s h journal fair past front at-here f g.opening c seat top t) repeated))
                (top-could s h journal fair past front at-here f g.opening c seat other top t),
          )
        where
          other : f.app ≢ 1
          other = no-payments f (ledger-app s h journal fair plans_are_whole past front next.place r on f seat.own.there named)

      -- in the first round
      when-young : is_held k ≡ false → Answer
      when-young e = go (last_made (real.named f) lines) refl
        where
          go : (o : Option Signed) → last_made (real.named f) lines ≡ o → Answer
          go None is = inr (own-is None is, none)
            where
              none : (p : Part) (j : Lent) → In p m.parts → lent (facts_of m) r p ≡ Some j → ⊥
              none p j there lends =
                  clash (is_held k)
                  (ledger-held s h journal fair past front at-here p there r (in-among r (ledgers_of p) (stands-on p there r j lends)) f g.opening c seat named) e
          go (Some t) is = inl (t.state, own-is (Some t) is, inl (same-as t.state valid-there repeated))
            where
              line : (y : Line) × (In y lines) × (made_in (real.named f) y.deed ≡ Some t)
              line = last-line (real.named f) lines t is

              in-journal : In line.0 (lines_of s.key journal)
              in-journal = subst (In line.0) (sym at-here.place.lines) (In-append_right line.0 at-here.place.newer lines line.1)

              valid-there : IsState t.state
              valid-there = (fair.nodes.valid.signed line.0 (real.named f) t.state in-journal (ap signed_of (made-deed (real.named f) line.0.deed t line.2))).1

              low : t.state.turn < people f
              low = below t.state.turn (people f) far
                where
                  far : people f ≤ t.state.turn + 1 → ⊥
                  far high =
                      let n = signed-held s h journal fair.nodes past front next.place f seat.own.there t is high in
                      let same : marked_of k.chain ≡ n.latest = some-eq (marked_of k.chain) n.latest (sym seat.at.chain ∙ n.is) in
                      clash (is_held k) (supported s.key past lines f g.opening c seat ∙ subst (λ (z : Marked). is_supported real f z ≡ true) (sym same) n.chain) e

              repeated : is_repeated g.opening t.state ≡ true
              repeated = opens line.0 t in-journal (made-noted (real.named f) line.0.deed t line.2) low

      pub answers : Answer
      answers = go (is_held k) refl
        where
          go : (b : Bool) → is_held k ≡ b → Answer
          go true e = when-held e
          go false e = when-young e

pub set_ups : (s : Signing) (h : List Entry) (journal : List Told) → IsFair s h journal → SetUpsStart s h journal
set_ups s h journal fair past x front next b r g i bearing found on f c seat named from until state valid few wants =
    answers s h journal fair past x front next b r g i bearing found on f c seat named from until state valid few wants
