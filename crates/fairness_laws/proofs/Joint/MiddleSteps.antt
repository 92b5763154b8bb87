-- What the intermediary wants in its joint channel.
use Rattle.std.proofs.Common.{◌≡◌, ℕ, ◌^◌, ◌<◌, ◌≤◌, true, false, List, ◌⊎◌, inl, inr, refl, sym, ◌∙◌, ap, subst}
use Rattle.std.specs.Prelude.{◌==◌, Option, Some, None}
use Rattle.std.specs.Str.{bytes_eq}
use Rattle.channel_values.specs.Parts.{FixedParts, StateParts}
use Rattle.channel_values.specs.declared.value.AssetOutcome.{AssetOutcome}
use Rattle.channel_safety.proofs.Tests.{none-eq, eqb-true}
use Rattle.call_history.proofs.Names.{same_bytes}
use Rattle.call_history.specs.declared.entry.Entry.{Entry}
use Rattle.funding_plans.specs.Parts.{running}
use Rattle.funding_plans.specs.declared.plan.Goal.{Goal}
use Rattle.funding_plans.specs.declared.plan.Part.{Part}
use Rattle.funding_plans.specs.declared.plan.Part.TheVariants as kinds
use Rattle.funding_plans.specs.declared.plan.Virtual.{Virtual}
use Rattle.channel_safety.specs.Journals.{In, Line}
use Rattle.network.specs.declared.command.Command.{Command}
use Rattle.channel_node.specs.Minds.{Mind, facts_of}
use Rattle.channel_node.specs.Places.{Told, lines_of, mind_at}
use Rattle.channel_node.specs.Playing.{Signing}
use Rattle.stage_tables.specs.Stages.{stages}
use Rattle.fairness_laws.specs.JointKeeping.{IsSplit}
use Rattle.fairness_laws.specs.PaymentLaws.{At}
use Rattle.fairness_laws.specs.PlanParts.{MiddleIs}
use Rattle.fairness_laws.specs.PlanSettings.{IsFair}
use Rattle.fairness_laws.proofs.Joint.Found.{found-sum}
use Rattle.fairness_laws.proofs.Joint.Pays.{AreTerms, parts-small}
use Rattle.fairness_laws.proofs.Plan.Asked.{OnLedger, ledger-named, asked-is}
use Rattle.fairness_laws.proofs.Joint.Core as cores
use Rattle.fairness_laws.proofs.Joint.Core.{Settled, Core}
use Rattle.fairness_laws.proofs.Seat.Held.{last-of}
use Rattle.fairness_laws.proofs.Joint.Middles.{MiddleCore}
use Rattle.fairness_laws.proofs.Joint.Moves.{repeats-so, joins-so, parts-so, passes-so}
use Rattle.fairness_laws.proofs.Joint.Rows as rows
use Rattle.fairness_laws.proofs.Joint.Rows.{MiddleWants, middle-wants}
use Rattle.fairness_laws.proofs.Joint.Seats.{other-apps as apps, opens, three, consensus, no-ledger, terms-are, core-named, settled-here}
use Rattle.fairness_laws.proofs.Joint.Terms.{joint-among}
use Rattle.fairness_laws.proofs.Stages.{MiddleRuns, middle-runs}
use Rattle.fairness_laws.proofs.OpenedVirtuals.{middle-opened}
use Rattle.funding_plans.specs.Targets.{apart}
use Rattle.stage_tables.specs.Asked as asked
use Rattle.share_laws.specs.Places.{channels}
use Rattle.funding_plans.specs.Rows.{stage_in}
use Rattle.funding_plans.specs.Seats.{Seat, holds}
use Rattle.support_rules.specs.Real.{real}
use Rattle.virtual_channel.specs.Middles as middles
use Rattle.virtual_channel.specs.Middles.{Middle, middle_rows, back_to}
use Rattle.virtual_channel.specs.Stages.{stage_of_middle, wanted_of_middle}

-- ---- at a place

module _ (s : Signing) (h : List Entry) (journal : List Told) (fair : IsFair s h journal) (past : List Entry) (front : List Told) (at : At s h journal past front)
    (v : Virtual) (i : In (kinds.Middle v) (mind_at real s.key past front).parts) (g : Goal) (a : MiddleIs s.key past (lines_of s.key front) (facts_of (mind_at real s.key past front)) v g) where
  abbrev m : Mind
  m = mind_at real s.key past front

  abbrev L : List Line
  L = lines_of s.key front

  abbrev p : Middle
  p = a.middle

  two-zero : ◌≡◌ {A = ℕ} 2 0 → ⊥
  two-zero e = absurd cc

  joint-no-ledger : OnLedger L v.joint → ⊥
  joint-no-ledger = no-ledger s h journal fair past front at v g p.terms p.joint a.joint

  -- the seats that have other names
  abbrev Named : Seat → Type 0
  Named c = bytes_eq c.name v.joint ≡ true

  not-guarantor : (f : FixedParts) → In f (channels L) → f.app ≡ 2 → real.named f ≡ v.joint → ⊥
  not-guarantor f j app same = apps s h journal fair past front at f a.joint.fixed j a.joint.seat.own.there (same ∙ sym a.joint.named) 2 0 app a.joint.app two-zero

  not-a : Named p.guarantor_a → ⊥
  not-a e = not-guarantor a.guarantor_a.fixed a.guarantor_a.seat.own.there a.guarantor_a.app (sym (ap (λ (z : Seat). z.name) a.guarantor_a.seat.is) ∙ same_bytes p.guarantor_a.name v.joint e)

  not-b : Named p.guarantor_b → ⊥
  not-b e = not-guarantor a.guarantor_b.fixed a.guarantor_b.seat.own.there a.guarantor_b.app (sym (ap (λ (z : Seat). z.name) a.guarantor_b.seat.is) ∙ same_bytes p.guarantor_b.name v.joint e)

  not-ledger-a : Named p.ledger_a → ⊥
  not-ledger-a e = joint-no-ledger (ledger-named s.key past L p.child_a.first p.child_a.second v.ledger_a p.ledger_a a.on_a v.joint e)

  not-ledger-b : Named p.ledger_b → ⊥
  not-ledger-b e = joint-no-ledger (ledger-named s.key past L p.child_b.first p.child_b.second v.ledger_b p.ledger_b a.on_b v.joint e)

  names : p.terms.asset < 2 ^ 32 → AreTerms p.terms
  names = terms-are s h journal fair past front at v g p.terms p.joint a.joint (middle-opened s h journal fair past front at v g i a).named

  -- ---- what it wants

  pub wants-in : (state : StateParts) → stages.wanted (facts_of m) v.joint ≡ Some state → MiddleWants p v.joint state
  wants-in state e = go (asked.asked_in (facts_of m) v.joint) refl e
    where
      go : (o : Option Part) → asked.asked_in (facts_of m) v.joint ≡ o → asked.wanted_of (facts_of m) v.joint o ≡ Some state → MiddleWants p v.joint state
      go None is e = absurd (none-eq state e)
      go (Some q) is e =
          let it-is : q ≡ kinds.Middle v = asked-is s h journal fair past front at v.joint (kinds.Middle v) q i (joint-among v) joint-no-ledger is in
          middle-wants p v.joint state
          (subst (λ (o : Option Middle). wanted_of_middle v.joint o ≡ Some state) a.is (subst (λ (z : Part). asked.wanted_of (facts_of m) v.joint (Some z) ≡ Some state) it-is e))

  module _ (waiting-for : Option Command) (was : MiddleCore v p L waiting-for) where
    core-here : Core p.terms p.joint.opening p.closing (middles.are_set_up p) (holds 5 p.joint) (IsSplit p.terms) (last-of (real.named a.joint.fixed) L)
    core-here = core-named s h journal fair past front at v g p.terms p.joint a.joint p.closing (middles.are_set_up p) (holds 5 p.joint) (IsSplit p.terms) was.core

    abbrev S : StateParts → Type 0
    S state = cores.Signing p.terms p.joint.opening p.closing (middles.are_set_up p) (holds 5 p.joint) (IsSplit p.terms) state

    pub signing-joint : (state : StateParts) → MiddleWants p v.joint state → S state
    signing-joint state w = by w
      where
        early-or : (until : ℕ) → ((until ≤ 3) × (middles.are_set_up p ≡ false)) ⊎ ((middles.are_set_up p ≡ true) × (holds 5 p.joint ≡ false)) → (until ≤ 3) ⊎ (middles.are_set_up p ≡ true)
        early-or until (inl e) = inl e.0
        early-or until (inr e) = inr e.0

        apart-back : (q : List AssetOutcome) → IsSplit p.terms q → (cd : ℕ × ℕ) × (q ≡ apart p.terms cd)
        apart-back q x = (x.amounts, x.is)

        back : p.closing ≡ true → (o : Option (ℕ × ℕ)) → middles.found p ≡ o → back_to p o ≡ Some state → S state
        back closed None is e =
            passes-so p.terms p.joint.opening p.closing (middles.are_set_up p) (holds 5 p.joint) (IsSplit p.terms) g.amounts (opens s h journal fair past front at v g p.terms p.joint a.joint) p.joint
            s h journal fair past front at a.joint.fixed (apart p.terms g.amounts) a.joint.seat (consensus s h journal fair past front at v g p.terms p.joint a.joint)
            (three s h journal fair past front at v g p.terms p.joint a.joint) names core-here apart-back closed state e
        back closed (Some cd) is e =
            parts-so p.terms p.joint.opening p.closing (middles.are_set_up p) (holds 5 p.joint) (IsSplit p.terms) g.amounts (opens s h journal fair past front at v g p.terms p.joint a.joint) p.joint
            s h journal fair past front at a.joint.fixed (apart p.terms g.amounts) a.joint.seat (consensus s h journal fair past front at v g p.terms p.joint a.joint)
            (three s h journal fair past front at v g p.terms p.joint a.joint) names core-here apart-back closed cd (λ n. parts-small cd.0 cd.1 p.terms.total (2 ^ 64) (found-sum p.terms p.joint.top cd is) n.total)
            (record { amounts = cd; is = refl; sum = found-sum p.terms p.joint.top cd is }) state e

        by : MiddleWants p v.joint state → S state
        by (rows.guarantees_a going unset e f) = absurd (not-a e)
        by (rows.guarantees_b going unset e f) = absurd (not-b e)
        by (rows.splits from until small going early risen e f) =
            repeats-so p.terms p.joint.opening p.closing (middles.are_set_up p) (holds 5 p.joint) (IsSplit p.terms) g.amounts (opens s h journal fair past front at v g p.terms p.joint a.joint) p.joint
            going refl from until (early-or until early) state f
        by (rows.ups_a going set up e f) = absurd (not-ledger-a e)
        by (rows.ups_b going set up e f) = absurd (not-ledger-b e)
        by (rows.joins going set up five unsettled e f) =
            joins-so p.terms p.joint.opening p.closing (middles.are_set_up p) (holds 5 p.joint) (IsSplit p.terms) g.amounts (opens s h journal fair past front at v g p.terms p.joint a.joint) p.joint
            s h journal fair past front at a.joint.fixed (apart p.terms g.amounts) a.joint.seat (consensus s h journal fair past front at v g p.terms p.joint a.joint)
            (three s h journal fair past front at v g p.terms p.joint a.joint) names core-here going set five state f
        by (rows.parts closed unsettled e f) = back closed (middles.found p) refl f
        by (rows.downs_a closed settled not-down e f) = absurd (not-ledger-a e)
        by (rows.downs_b closed settled not-down e f) = absurd (not-ledger-b e)

    -- it runs
    pub runs-here : (stages.stage (facts_of m) (kinds.Middle v) == running (kinds.Middle v)) ≡ true → MiddleRuns p × Settled p.terms (last-of v.joint L)
    runs-here e =
        let r = middle-runs p (eqb-true (stage_in (middle_rows p)) 5 (subst (λ (o : Option Middle). (stage_of_middle o == 5) ≡ true) a.is e)) in
        (r, (settled-here s h journal fair past front at v g p.terms p.joint a.joint p.closing (middles.are_set_up p) (holds 5 p.joint) (IsSplit p.terms) was.core r.going r.joined).0)
