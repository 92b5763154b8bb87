-- What an event makes of the joint channel at an end.
use Rattle.std.proofs.Common.{◌≡◌, ℕ, ◌+◌, ◌*◌, ◌^◌, ◌<◌, ◌≤◌, true, false, ◌&&◌, List, [], ◌⊎◌, inl, inr, refl, sym, ◌∙◌, ap, subst, arith}
use Rattle.std.specs.Prelude.{◌==◌, nat_le, nat_lt, Option, Some, None}
use Rattle.std.specs.Option.{option_map}
use Rattle.std.specs.Str.{bytes_eq}
use Rattle.channel_values.specs.Outcomes.{IsName}
use Rattle.channel_values.specs.Parts.{StateParts, state_with}
use Rattle.channel_values.specs.declared.value.AssetOutcome.{AssetOutcome}
use Rattle.channel_values.specs.declared.value.Dest.TheVariants.{Person}
use Rattle.channel_safety.proofs.Tests.{some-eq, none-eq, clash, and-left, and-right, eqb-true, lt-true}
use Rattle.call_history.proofs.Names.{same_bytes, bytes_eq_self}
use Rattle.call_history.specs.Flows.{is_among}
use Rattle.call_history.specs.declared.entry.Entry.{Entry}
use Rattle.channel_values.specs.Rules.{people}
use Rattle.funding_plans.specs.Parts.{own_ledger, own_guarantor, channels_of_virtual, ledgers_of, running}
use Rattle.funding_plans.specs.declared.plan.Goal.{Goal}
use Rattle.funding_plans.specs.declared.plan.Part.{Part}
use Rattle.funding_plans.specs.declared.plan.Part.TheVariants as kinds
use Rattle.funding_plans.specs.declared.plan.Virtual.{Virtual}
use Rattle.channel_safety.specs.Journals.{In, Line}
use Rattle.network.specs.declared.command.Command.{Command}
use Rattle.channel_node.specs.Minds.{Mind, facts_of}
use Rattle.channel_node.specs.Places.{Told, lines_of, mind_at}
use Rattle.channel_node.specs.Playing.{Signing}
use Rattle.stage_tables.specs.Stages.{stages}
use Rattle.fairness_laws.specs.JointKeeping.{IsOver}
use Rattle.fairness_laws.specs.PaymentLaws.{At}
use Rattle.fairness_laws.specs.PlanParts.{EndIs}
use Rattle.fairness_laws.specs.PlanSettings.{IsFair}
use Rattle.fairness_laws.proofs.Joint.Core as cores
use Rattle.fairness_laws.proofs.Joint.Core.{Settled, Core, Late}
use Rattle.fairness_laws.proofs.Joint.Ends.{EndCore}
use Rattle.fairness_laws.proofs.OpenedVirtuals.{end-opened}
use Rattle.fairness_laws.proofs.Outcomes.{amount-small}
use Rattle.fairness_laws.proofs.Paying.{reaches-holds}
use Rattle.fairness_laws.proofs.Plan.Asked.{OnLedger, ledger-named as named-ledger, asked-is, asked-or, plan-is}
use Rattle.fairness_laws.proofs.Plan.Bearers.{end-apart}
use Rattle.fairness_laws.proofs.Joint.Late.{late-of}
use Rattle.fairness_laws.proofs.Joint.Terms.{channel-among, channel-no_ledger}
use Rattle.fairness_laws.proofs.Seat.Past.{two-people}
use Rattle.fairness_laws.proofs.Seat.Held.{last-of, tops, top-valid, held-past}
use Rattle.fairness_laws.proofs.Joint.Moves.{toward-is, repeats-so, joins-so, parts-so}
use Rattle.fairness_laws.proofs.Joint.Pays.{AreTerms}
use Rattle.fairness_laws.proofs.Joint.Rows as rows
use Rattle.fairness_laws.proofs.Joint.Rows.{EndWants, end-wants}
use Rattle.fairness_laws.proofs.Joint.Seats.{other-apps as apps, opens, three, consensus, no-ledger, has-name, terms-are, core-named, settled-here, settled-there, late-settled}
use Rattle.fairness_laws.proofs.NamesAreNames.{names_are_names}
use Rattle.fairness_laws.proofs.Stages.{EndRuns, end-runs}
use Rattle.funding_plans.specs.Limits.{is_valid}
use Rattle.funding_plans.specs.Outcomes.{amounts_in}
use Rattle.funding_plans.specs.Targets.{apart}
use Rattle.stage_tables.specs.Asked as asked
use Rattle.funding_plans.specs.Rows.{stage_in}
use Rattle.funding_plans.specs.Seats.{Seat, holds, repeats, toward, is_turn, settled_on, amounts_after}
use Rattle.support_rules.specs.Real.{real}
use Rattle.virtual_channel.specs.Ends as ends
use Rattle.virtual_channel.specs.Ends.{End, end_rows}
use Rattle.virtual_channel.specs.Stages.{stage_of_end, wanted_of_end}
use Rattle.fairness_laws.proofs.Finding.{flips}
use Rattle.fairness_laws.proofs.RootWishes.{when-some}

-- ---- at a place

module _ (s : Signing) (h : List Entry) (journal : List Told) (fair : IsFair s h journal) (past : List Entry) (front : List Told) (at : At s h journal past front)
    (v : Virtual) (i : In (kinds.End v) (mind_at real s.key past front).parts) (g : Goal) (a : EndIs s.key past (lines_of s.key front) (facts_of (mind_at real s.key past front)) v g) where
  abbrev m : Mind
  m = mind_at real s.key past front

  abbrev L : List Line
  L = lines_of s.key front

  abbrev p : End
  p = a.end

  two-zero : ◌≡◌ {A = ℕ} 2 0 → ⊥
  two-zero e = absurd cc

  -- its channels have names of their own
  differs : (bytes_eq v.channel v.joint ≡ false) × (bytes_eq v.channel (own_guarantor v) ≡ false)
  differs = end-apart m.parts (plan-is s h journal fair past front at) v i

  other-name : (name : List ℕ) → bytes_eq v.channel name ≡ false → name ≡ v.channel → ⊥
  other-name name differ same = clash (bytes_eq v.channel name) (subst (λ (n : List ℕ). bytes_eq v.channel n ≡ true) (sym same) (bytes_eq_self v.channel)) differ

  -- the joint channel is no ledger
  pub joint-no-ledger : OnLedger L v.joint → ⊥
  joint-no-ledger = no-ledger s h journal fair past front at v g p.terms p.joint a.joint

  pub joint-not-channel : bytes_eq v.joint v.channel ≡ false
  joint-not-channel = flips v.channel v.joint differs.0

  -- the seats that have other names
  abbrev Named : Seat → List ℕ → Type 0
  Named c name = bytes_eq c.name name ≡ true

  guarantor-named : (name : List ℕ) → Named p.guarantor name → real.named a.guarantor.fixed ≡ name
  guarantor-named name e = sym (ap (λ (z : Seat). z.name) a.guarantor.seat.is) ∙ same_bytes p.guarantor.name name e

  joint-named : (name : List ℕ) → Named p.joint name → real.named a.joint.fixed ≡ name
  joint-named = has-name s h journal fair past front at v g p.terms p.joint a.joint

  channel-named : (name : List ℕ) → Named p.channel name → real.named a.fixed ≡ name
  channel-named name e = sym (ap (λ (z : Seat). z.name) a.seat.is) ∙ same_bytes p.channel.name name e

  -- the channel is named
  is-channel : real.named a.fixed ≡ v.joint → ⊥
  is-channel e = other-name v.joint differs.0 (sym e ∙ a.named)

  is-joint : real.named a.joint.fixed ≡ v.channel → ⊥
  is-joint e = other-name v.joint differs.0 (sym a.joint.named ∙ e)

  is-guarantor : real.named a.guarantor.fixed ≡ v.channel → ⊥
  is-guarantor e = other-name (own_guarantor v) differs.1 (sym a.guarantor.named ∙ e)

  is-lender : Named p.ledger v.channel → ⊥
  is-lender e =
      other-name (own_ledger v) (channel-no_ledger s h journal fair past front at.front_is (facts_of m) v g a)
      (sym a.on.named ∙ (sym (ap (λ (z : Seat). z.name) a.on.seat.is) ∙ same_bytes p.ledger.name v.channel e))

  ledger-named : (name : List ℕ) → Named p.ledger name → OnLedger L name
  ledger-named name e = named-ledger s.key past L p.child.first p.child.second (own_ledger v) p.ledger a.on name e

  -- ---- the terms

  names : p.terms.asset < 2 ^ 32 → AreTerms p.terms
  names = terms-are s h journal fair past front at v g p.terms p.joint a.joint (subst IsName a.named (names_are_names a.fixed))

  -- what the channel says the ends get are amounts
  ends-small : (cd : ℕ × ℕ) → ends.ends_now p ≡ Some cd → (cd.0 < 2 ^ 64) × (cd.1 < 2 ^ 64)
  ends-small cd e = go p.channel.top refl e
    where
      go : (o : Option StateParts) → p.channel.top ≡ o → amounts_after p.terms.asset p.terms.first p.terms.second o ≡ Some cd → (cd.0 < 2 ^ 64) × (cd.1 < 2 ^ 64)
      go None is e = absurd (none-eq cd e)
      go (Some u) is e =
          let w = tops s h journal fair past front at a.fixed g.opening p.channel a.seat u is in
          let valid = top-valid s h journal fair past front at a.fixed g.opening p.channel a.seat u w in
          let same = some-eq (amounts_in p.terms.asset p.terms.first p.terms.second u.outcome) cd e in (
            subst (λ (z : ℕ × ℕ). z.0 < 2 ^ 64) same (amount-small u.outcome valid.outcome.1.each p.terms.asset (Person p.terms.first)),
            subst (λ (z : ℕ × ℕ). z.1 < 2 ^ 64) same (amount-small u.outcome valid.outcome.1.each p.terms.asset (Person p.terms.second)),
          )

  -- ---- what it wants

  pub wants-in : (name : List ℕ) → is_among name (channels_of_virtual v) ≡ true → (OnLedger L name → ⊥) → (state : StateParts) → stages.wanted (facts_of m) name ≡ Some state → EndWants p name state
  wants-in name has none state e = go (asked.asked_in (facts_of m) name) refl e
    where
      go : (o : Option Part) → asked.asked_in (facts_of m) name ≡ o → asked.wanted_of (facts_of m) name o ≡ Some state → EndWants p name state
      go None is e = absurd (none-eq state e)
      go (Some q) is e =
          let it-is : q ≡ kinds.End v = asked-is s h journal fair past front at name (kinds.End v) q i has none is in
          end-wants p name state
          (subst (λ (o : Option End). wanted_of_end name o ≡ Some state) a.is (subst (λ (z : Part). asked.wanted_of (facts_of m) name (Some z) ≡ Some state) it-is e))

  -- in its channel, or what a part that stands on that wants
  pub wants-channel : (state : StateParts) → stages.wanted (facts_of m) v.channel ≡ Some state → EndWants p v.channel state ⊎ ((q : Part) × In q m.parts × (is_among v.channel (ledgers_of q) ≡ true))
  wants-channel state e = go (asked.asked_in (facts_of m) v.channel) refl e
    where
      go : (o : Option Part) → asked.asked_in (facts_of m) v.channel ≡ o → asked.wanted_of (facts_of m) v.channel o ≡ Some state
          → EndWants p v.channel state ⊎ ((q : Part) × In q m.parts × (is_among v.channel (ledgers_of q) ≡ true))
      go None is e = absurd (none-eq state e)
      go (Some q) is e = by (asked-or s h journal fair past front at v.channel (kinds.End v) q i (channel-among v) is)
        where
          by : (q ≡ kinds.End v) ⊎ (In q m.parts × (is_among v.channel (ledgers_of q) ≡ true)) → EndWants p v.channel state ⊎ ((q : Part) × In q m.parts × (is_among v.channel (ledgers_of q) ≡ true))
          by (inr w) = inr (q, w.0, w.1)
          by (inl it-is) =
              inl (end-wants p v.channel state
              (subst (λ (o : Option End). wanted_of_end v.channel o ≡ Some state) a.is (subst (λ (z : Part). asked.wanted_of (facts_of m) v.channel (Some z) ≡ Some state) it-is e)))

  -- where a part stands on its channel the end signed past the set-up of that
  pub borne-late : (q : Part) → In q m.parts → is_among v.channel (ledgers_of q) ≡ true → Late 2 (last-of v.channel L)
  borne-late q j on =
      late-of s h journal fair past front at a.fixed g.opening p.channel a.seat 2 two v.channel a.named
      (held-past s h journal fair past front at a.fixed g.opening p.channel a.seat 3 (twice (people a.fixed) two)
      (reaches-holds s h journal fair past front at a.fixed g.opening p.channel a.seat 3 (few (people a.fixed) two) ((end-opened s h journal fair past front at v g i a).borne q j on)))
    where
      two : people a.fixed ≡ 2
      two = two-people a.fixed p.terms.first p.terms.second a.people

      twice : (n : ℕ) → n ≡ 2 → 2 * n ≤ 3 + 1
      twice n e = omega arith

      few : (n : ℕ) → n ≡ 2 → n ≤ 3 + 1
      few n e = omega arith

  module _ (waiting-for : Option Command) (was : EndCore v p L waiting-for) where
    -- by what is known of its seat
    pub settled : p.closing ≡ false → settled_on (ends.target_together p) p.joint ≡ true → Settled p.terms (last-of v.joint L) × (holds 5 p.joint ≡ true)
    settled = settled-here s h journal fair past front at v g p.terms p.joint a.joint p.closing (ends.are_set_up p) (holds 5 p.joint) (IsOver p) was.core

    -- then the joint channel is left alone
    pub settled-quiet : p.closing ≡ false → Settled p.terms (last-of v.joint L) → (state : StateParts) → EndWants p v.joint state → ⊥
    settled-quiet going z state w = by w
      where
        joined : settled_on (ends.target_together p) p.joint ≡ true
        joined = settled-there s h journal fair past front at v g p.terms p.joint a.joint p.closing (ends.are_set_up p) (holds 5 p.joint) (IsOver p) was.core z

        set : ends.are_set_up p ≡ true
        set = was.core.set_up (inr (late-settled s h journal fair past front at v g p.terms p.joint a.joint p.closing (ends.are_set_up p) (holds 5 p.joint) (IsOver p) was.core z))

        five : holds 5 p.joint ≡ true
        five = (settled going joined).1

        by : EndWants p v.joint state → ⊥
        by (rows.guarantees going unset e f) =
            apps s h journal fair past front at a.guarantor.fixed a.joint.fixed a.guarantor.seat.own.there a.joint.seat.own.there (guarantor-named v.joint e ∙ sym a.joint.named) 2 0 a.guarantor.app
            a.joint.app two-zero
        by (rows.splits from until small going (inl early) risen e f) = clash (ends.are_set_up p) set early.1
        by (rows.splits from until small going (inr late) risen e f) = clash (holds 5 p.joint) five late.1
        by (rows.opens from until small early e f) =
            is-channel (channel-named v.joint e)
        by (rows.ups going set up e f) = joint-no-ledger (ledger-named v.joint e)
        by (rows.joins going set up five unsettled e f) = clash (settled_on (ends.target_together p) p.joint) joined unsettled
        by (rows.finals closed unended e f) =
            is-channel (channel-named v.joint e)
        by (rows.parts closed final unsettled e f) = clash p.closing closed going
        by (rows.downs closed final settled up e f) = joint-no-ledger (ledger-named v.joint e)

    -- ---- what is wanted there

    core-here : Core p.terms p.joint.opening p.closing (ends.are_set_up p) (holds 5 p.joint) (IsOver p) (last-of (real.named a.joint.fixed) L)
    core-here = core-named s h journal fair past front at v g p.terms p.joint a.joint p.closing (ends.are_set_up p) (holds 5 p.joint) (IsOver p) was.core

    abbrev S : StateParts → Type 0
    S state = cores.Signing p.terms p.joint.opening p.closing (ends.are_set_up p) (holds 5 p.joint) (IsOver p) state

    pub signing-joint : (state : StateParts) → EndWants p v.joint state → S state
    signing-joint state w = by w
      where
        early-or : (until : ℕ) → ((until ≤ 3) × (ends.are_set_up p ≡ false)) ⊎ ((ends.are_set_up p ≡ true) × (holds 5 p.joint ≡ false)) → (until ≤ 3) ⊎ (ends.are_set_up p ≡ true)
        early-or until (inl e) = inl e.0
        early-or until (inr e) = inr e.0

        apart-back : (q : List AssetOutcome) → IsOver p q → (cd : ℕ × ℕ) × (q ≡ apart p.terms cd)
        apart-back q x = (x.amounts, x.is)

        back : p.closing ≡ true → p.channel.all_final ≡ true → (o : Option (ℕ × ℕ)) → ends.ends_now p ≡ o → toward (option_map (apart p.terms) o) p.joint ≡ Some state → S state
        back closed final None is e = let x = toward-is None p.joint state e in absurd (none-eq x.goal x.goal_is)
        back closed final (Some cd) is e =
            parts-so p.terms p.joint.opening p.closing (ends.are_set_up p) (holds 5 p.joint) (IsOver p) g.amounts (opens s h journal fair past front at v g p.terms p.joint a.joint) p.joint s h journal fair past front at a.joint.fixed (apart p.terms g.amounts) a.joint.seat
            (consensus s h journal fair past front at v g p.terms p.joint a.joint) (three s h journal fair past front at v g p.terms p.joint a.joint) names core-here apart-back closed cd (λ n. ends-small cd is) (record { amounts = cd; now = is; all_final = final; is = refl }) state e

        by : EndWants p v.joint state → S state
        by (rows.guarantees going unset e f) =
            absurd (apps s h journal fair past front at a.guarantor.fixed a.joint.fixed a.guarantor.seat.own.there a.joint.seat.own.there (guarantor-named v.joint e ∙ sym a.joint.named) 2 0
            a.guarantor.app a.joint.app two-zero)
        by (rows.splits from until small going early risen e f) =
            repeats-so p.terms p.joint.opening p.closing (ends.are_set_up p) (holds 5 p.joint) (IsOver p) g.amounts (opens s h journal fair past front at v g p.terms p.joint a.joint) p.joint going refl from until (early-or until early) state f
        by (rows.opens from until small early e f) =
            absurd (is-channel (channel-named v.joint e))
        by (rows.ups going set up e f) = absurd (joint-no-ledger (ledger-named v.joint e))
        by (rows.joins going set up five unsettled e f) =
            joins-so p.terms p.joint.opening p.closing (ends.are_set_up p) (holds 5 p.joint) (IsOver p) g.amounts (opens s h journal fair past front at v g p.terms p.joint a.joint) p.joint s h journal fair past front at a.joint.fixed (apart p.terms g.amounts) a.joint.seat
            (consensus s h journal fair past front at v g p.terms p.joint a.joint) (three s h journal fair past front at v g p.terms p.joint a.joint) names core-here going set five state f
        by (rows.finals closed unended e f) =
            absurd (is-channel (channel-named v.joint e))
        by (rows.parts closed final unsettled e f) = back closed final (ends.ends_now p) refl f
        by (rows.downs closed final settled up e f) = absurd (joint-no-ledger (ledger-named v.joint e))

    -- past the set-up of the payment channel it is settled on together
    pub signing-channel : p.closing ≡ false → (state : StateParts) → 2 ≤ state.turn → EndWants p v.channel state → Settled p.terms (last-of v.joint L)
    signing-channel going state far w = by w
      where
        repeated : (from until : ℕ) → until ≤ 2 → repeats from until p.channel ≡ Some state → ⊥
        repeated from until low e =
            let w = when-some (nat_le from p.channel.next && nat_lt p.channel.next until && is_turn p.channel && is_valid p.channel.opening) (state_with p.channel.next false p.channel.opening []) state e in
            over state.turn p.channel.next until (ap (λ (x : StateParts). x.turn) (sym w.is))
            (lt-true p.channel.next until (and-right (nat_le from p.channel.next) (nat_lt p.channel.next until)
            (and-left (nat_le from p.channel.next && nat_lt p.channel.next until) (is_turn p.channel)
            (and-left (nat_le from p.channel.next && nat_lt p.channel.next until && is_turn p.channel) (is_valid p.channel.opening) w.holds)))) low far
          where
            over : (a b u : ℕ) → a ≡ b → b < u → u ≤ 2 → 2 ≤ a → ⊥
            over a b u p q r far = absurd (omega arith)

        by : EndWants p v.channel state → Settled p.terms (last-of v.joint L)
        by (rows.guarantees going unset e f) =
            absurd (is-guarantor (guarantor-named v.channel e))
        by (rows.splits from until small going early risen e f) =
            absurd (is-joint (joint-named v.channel e))
        by (rows.opens from until small (inl low) e f) = absurd (repeated from until low f)
        by (rows.opens from until small (inr done) e f) = (settled going done.1).0
        by (rows.ups going set up e f) = absurd (is-lender e)
        by (rows.joins going set up five unsettled e f) =
            absurd (is-joint (joint-named v.channel e))
        by (rows.finals closed unended e f) = absurd (clash p.closing closed going)
        by (rows.parts closed final unsettled e f) =
            absurd (is-joint (joint-named v.channel e))
        by (rows.downs closed final settled up e f) = absurd (is-lender e)

    -- it runs
    pub runs-here : (stages.stage (facts_of m) (kinds.End v) == running (kinds.End v)) ≡ true → EndRuns p × Settled p.terms (last-of v.joint L)
    runs-here e =
        let r = end-runs p (eqb-true (stage_in (end_rows p)) 5 (subst (λ (o : Option End). (stage_of_end o == 5) ≡ true) a.is e)) in
        (r, (settled r.going r.joined).0)
