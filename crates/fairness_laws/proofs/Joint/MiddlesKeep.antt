-- What the joint channel at the intermediary keeps.
use Rattle.std.proofs.Common.{◌≡◌, ℕ, Bool, true, false, not, ◌⊎◌, inl, inr, List, [], ◌∷◌, refl, sym, ◌∙◌, ap, subst}
use Rattle.std.specs.Prelude.{Option, Some}
use Rattle.channel_values.specs.Parts.{StateParts}
use Rattle.channel_values.specs.declared.value.AssetOutcome.{AssetOutcome}
use Rattle.channel_values.specs.declared.value.Dest.TheVariants.{Channel}
use Rattle.channel_safety.proofs.Tests.{some-eq, clash, and-left, and-right}
use Rattle.call_history.specs.declared.entry.Entry.{Entry}
use Rattle.channel_values.specs.Amounts.{has}
use Rattle.funding_plans.specs.Shapes.{items_in}
use Rattle.funding_plans.specs.declared.plan.Goal.{Goal}
use Rattle.funding_plans.specs.declared.plan.Part.TheVariants as kinds
use Rattle.funding_plans.specs.declared.plan.Virtual.{Virtual}
use Rattle.channel_safety.specs.Journals.{In, Line}
use Rattle.channel_node.specs.Minds.{facts_of}
use Rattle.channel_node.specs.Places.{Told, lines_of, mind_at}
use Rattle.channel_node.specs.Playing.{Signing}
use Rattle.fairness_laws.specs.JointKeeping.{IsSplit, MiddleKeeps, MiddlesKeep}
use Rattle.fairness_laws.specs.PaymentLaws.{At}
use Rattle.fairness_laws.specs.PlanParts.{MiddleIs}
use Rattle.fairness_laws.specs.PlanSettings.{IsFair}
use Rattle.fairness_laws.proofs.Joint.Core.{Late, Core}
use Rattle.fairness_laws.proofs.Seat.Held.{last-of, tops, top-could, top-valid, top-last, own-top}
use Rattle.fairness_laws.proofs.Joint.MiddleKept.{middles-core}
use Rattle.fairness_laws.proofs.Joint.Outcomes.{together-has, found-apart}
use Rattle.fairness_laws.proofs.Outcomes.{alone, only}
use Rattle.fairness_laws.proofs.Joint.Seats.{consensus, seat-late, own-is, late-settled, settled-here, sets, opens-with, joins, joined, parts}
use Rattle.fairness_laws.proofs.Payment.Sharing.{no-bytes}
use Rattle.funding_plans.specs.Targets.{apart, together}
use Rattle.share_laws.specs.Places.{outcomes_of}
use Rattle.funding_plans.specs.Seats.{state_is, has_no_data, holds, has_signed_past, settled_on}
use Rattle.support_rules.specs.Real.{real}
use Rattle.virtual_channel.specs.Apart.{apart_at}
use Rattle.virtual_channel.specs.Middles as middles
use Rattle.virtual_channel.specs.Middles.{Middle, is_without}

module _ (s : Signing) (h : List Entry) (journal : List Told) (fair : IsFair s h journal) (past : List Entry) (front : List Told) (at : At s h journal past front)
    (v : Virtual) (g : Goal) (i : In (kinds.Middle v) (mind_at real s.key past front).parts) (e : MiddleIs s.key past (lines_of s.key front) (facts_of (mind_at real s.key past front)) v g) where
  abbrev L : List Line
  L = lines_of s.key front

  abbrev p : Middle
  p = e.middle

  core : Core p.terms p.joint.opening p.closing (middles.are_set_up p) (holds 5 p.joint) (IsSplit p.terms) (last-of v.joint L)
  core = (middles-core s h journal fair past front at v g i e).core

  own : (last : StateParts) → p.joint.own ≡ Some last → last-of v.joint L ≡ Some last
  own = own-is s h journal fair past front at v g p.terms p.joint e.joint

  late-joint : Late 3 (last-of v.joint L) → has_signed_past p.joint ≡ true
  late-joint = seat-late s h journal fair past front at v g p.terms p.joint e.joint

  past-joint : (p.closing ≡ true) ⊎ (settled_on (middles.target_together p) p.joint ≡ true) → has_signed_past p.joint ≡ true
  past-joint (inl closed) = late-joint (core.closed closed)
  past-joint (inr settled) = go p.closing refl
    where
      go : (b : Bool) → p.closing ≡ b → has_signed_past p.joint ≡ true
      go true closed = late-joint (core.closed closed)
      go false stays =
          late-joint (late-settled s h journal fair past front at v g p.terms p.joint e.joint p.closing (middles.are_set_up p) (holds 5 p.joint) (IsSplit p.terms) core
          (settled-here s h journal fair past front at v g p.terms p.joint e.joint p.closing (middles.are_set_up p) (holds 5 p.joint) (IsSplit p.terms) core stays settled).0)

  -- ---- from Close on

  -- the latest outcome is the one that was signed last, where no votes stand
  found-so : (last : StateParts) → p.joint.own ≡ Some last → outcomes_of last ≡ last.outcome ∷ [] → (x : IsSplit p.terms last.outcome) → middles.found p ≡ Some x.amounts
  found-so last is single x =
      let u = own-top s h journal fair past front at e.joint.fixed (apart p.terms g.amounts) p.joint e.joint.seat last is in
      let w = tops s h journal fair past front at e.joint.fixed (apart p.terms g.amounts) p.joint e.joint.seat u.0 u.1 in
      let same : w.last.state ≡ last =
      some-eq w.last.state last (sym (top-last s h journal fair past front at e.joint.fixed (apart p.terms g.amounts) p.joint e.joint.seat u.0 w)
      ∙ subst (λ (n : List ℕ). last-of n L ≡ Some last) (sym e.joint.named) (own last is)) in
      let now : u.0.outcome ≡ last.outcome =
      only last last.outcome single u.0.outcome (subst (λ (z : StateParts). In u.0.outcome (outcomes_of z)) same
      (top-could s h journal fair past front at e.joint.fixed (apart p.terms g.amounts) p.joint e.joint.seat (consensus s h journal fair past front at v g p.terms p.joint e.joint) u.0 w)) in
      ap (apart_at p.terms) u.1
      ∙ found-apart p.terms u.0 x.amounts (top-valid s h journal fair past front at e.joint.fixed (apart p.terms g.amounts) p.joint e.joint.seat u.0 w).outcome (now ∙ x.is) x.sum

  parted : p.closing ≡ true → middles.is_settled_back p ≡ true → (last : StateParts) → p.joint.own ≡ Some last
      → (split : IsSplit p.terms last.outcome) × (outcomes_of last ≡ apart p.terms split.amounts ∷ []) × (middles.found p ≡ Some split.amounts)
  parted closed settled last is = by (core.parts closed last last.outcome (own last is) (inl refl))
    where
      without : is_without p.terms last ≡ true
      without = subst (λ (o : Option StateParts). state_is (is_without p.terms) o ≡ true) is settled

      single : outcomes_of last ≡ last.outcome ∷ []
      single = alone last (no-bytes last.app_bytes (and-left (has_no_data last) (not (has (items_in p.terms.asset last.outcome) (Channel p.terms.channel))) without))

      by : (last.outcome ≡ together p.terms) ⊎ IsSplit p.terms last.outcome
          → (split : IsSplit p.terms last.outcome) × (outcomes_of last ≡ apart p.terms split.amounts ∷ []) × (middles.found p ≡ Some split.amounts)
      by (inl same) =
          absurd (clash (not (has (items_in p.terms.asset last.outcome) (Channel p.terms.channel)))
          (and-right (has_no_data last) (not (has (items_in p.terms.asset last.outcome) (Channel p.terms.channel))) without)
          (ap (λ (o : List AssetOutcome). not (has (items_in p.terms.asset o) (Channel p.terms.channel))) same ∙ ap not (together-has p.terms)))
      by (inr x) = (x, single ∙ ap (λ (o : List AssetOutcome). o ∷ []) x.is, found-so last is single x)

  pub middle-keeps : MiddleKeeps g p
  middle-keeps = record {
    set_up = sets s h journal fair past front at v g p.terms p.joint e.joint p.closing (middles.are_set_up p) (holds 5 p.joint) (IsSplit p.terms) core;
    past = past-joint;
    opens = opens-with s h journal fair past front at v g p.terms p.joint e.joint p.closing (middles.are_set_up p) (holds 5 p.joint) (IsSplit p.terms) core;
    joins = joins s h journal fair past front at v g p.terms p.joint e.joint p.closing (middles.are_set_up p) (holds 5 p.joint) (IsSplit p.terms) core;
    joined = joined s h journal fair past front at v g p.terms p.joint e.joint p.closing (middles.are_set_up p) (holds 5 p.joint) (IsSplit p.terms) core;
    parts = parts s h journal fair past front at v g p.terms p.joint e.joint p.closing (middles.are_set_up p) (holds 5 p.joint) (IsSplit p.terms) core;
    parted = parted;
  }

pub middles_keep : MiddlesKeep
middles_keep s h journal past front fair at v g i e = middle-keeps s h journal fair past front at v g i e
