-- The joint channel at the intermediary, from one place to the next.
use Rattle.std.proofs.Common.{◌≡◌, ℕ, Bool, true, ◌&&◌, List, ◌++◌, sym, ◌∙◌, subst}
use Rattle.std.specs.Prelude.{Option, Some}
use Rattle.channel_values.specs.Parts.{StateParts}
use Rattle.channel_values.specs.declared.value.AssetOutcome.{AssetOutcome}
use Rattle.channel_safety.proofs.Tests.{and-left, and-right, and-both}
use Rattle.call_history.specs.declared.entry.Entry.{Entry}
use Rattle.funding_plans.specs.declared.plan.Goal.{Goal}
use Rattle.funding_plans.specs.declared.plan.Virtual.{Virtual}
use Rattle.channel_safety.specs.Journals.{Line}
use Rattle.network.specs.declared.command.Command.{Command}
use Rattle.network.specs.declared.command.Command.TheVariants as commands
use Rattle.channel_node.specs.Minds.{Mind, facts_of}
use Rattle.channel_node.specs.Places.{Told, lines_of, mind_at}
use Rattle.channel_node.specs.Playing.{Signing}
use Rattle.fairness_laws.specs.JointKeeping.{IsSplit}
use Rattle.fairness_laws.specs.PaymentLaws.{At}
use Rattle.fairness_laws.specs.PlanParts.{MiddleIs}
use Rattle.fairness_laws.specs.PlanSettings.{IsFair}
use Rattle.fairness_laws.proofs.Joint.Core.{Core}
use Rattle.fairness_laws.proofs.Seat.Held.{last-of}
use Rattle.fairness_laws.proofs.Joint.Places.{set-up-grows}
use Rattle.fairness_laws.proofs.Joint.Stays.{terms-same, joint-set, core-stays}
use Rattle.fairness_laws.proofs.Opening.Middles.{middle-at}
use Rattle.funding_plans.specs.declared.terms.Terms.{Terms}
use Rattle.funding_plans.specs.Seats.{holds, is_set_up}
use Rattle.support_rules.specs.Real.{real}
use Rattle.virtual_channel.specs.Middles as middles
use Rattle.virtual_channel.specs.Middles.{Middle}

-- ---- what is known of it at a place

pub record MiddleCore (v : Virtual) (p : Middle) (front : List Line) (waiting : Option Command) : Type 0 where
  pub core : Core p.terms p.joint.opening p.closing (middles.are_set_up p) (holds 5 p.joint) (IsSplit p.terms) (last-of v.joint front)
  -- no payment waits there
  pub unpaid : (asset amount : ℕ) → waiting ≡ Some (commands.Pay v.joint asset amount) → ⊥

-- ---- from one place to a later one

module _ (s : Signing) (h : List Entry) (journal : List Told) (fair : IsFair s h journal) (later past : List Entry) (newer front : List Told)
    (pa : At s h journal past front) (qa : At s h journal (later ++ past) (newer ++ front)) where
  abbrev L : List Line
  L = lines_of s.key front

  abbrev M : List Line
  M = lines_of s.key (newer ++ front)

  abbrev m : Mind
  m = mind_at real s.key past front

  abbrev new : Mind
  new = mind_at real s.key (later ++ past) (newer ++ front)

  module _ (v : Virtual) (g k : Goal) (a : MiddleIs s.key past L (facts_of m) v g) (b : MiddleIs s.key (later ++ past) M (facts_of new) v k)
      (amounts : (middle-at new v b.middle b.is).g.amounts ≡ (middle-at m v a.middle a.is).g.amounts) where
    -- the three channels are set up
    set-stays : middles.are_set_up a.middle ≡ true → middles.are_set_up b.middle ≡ true
    set-stays e =
        let guarantors = and-left (is_set_up a.middle.guarantor_a && is_set_up a.middle.guarantor_b) (is_set_up a.middle.joint) e in
        and-both (is_set_up b.middle.guarantor_a && is_set_up b.middle.guarantor_b) (is_set_up b.middle.joint)
        (and-both (is_set_up b.middle.guarantor_a) (is_set_up b.middle.guarantor_b)
        (set-up-grows s h journal fair later past newer front pa qa a.guarantor_a.fixed b.guarantor_a.fixed _ _ a.middle.guarantor_a b.middle.guarantor_a a.guarantor_a.seat b.guarantor_a.seat
        (a.guarantor_a.named ∙ sym b.guarantor_a.named) (and-left (is_set_up a.middle.guarantor_a) (is_set_up a.middle.guarantor_b) guarantors))
        (set-up-grows s h journal fair later past newer front pa qa a.guarantor_b.fixed b.guarantor_b.fixed _ _ a.middle.guarantor_b b.middle.guarantor_b a.guarantor_b.seat b.guarantor_b.seat
        (a.guarantor_b.named ∙ sym b.guarantor_b.named) (and-right (is_set_up a.middle.guarantor_a) (is_set_up a.middle.guarantor_b) guarantors)))
        (joint-set s h journal fair later past newer front pa qa v g k a.middle.terms b.middle.terms a.middle.joint b.middle.joint a.joint b.joint
        (and-right (is_set_up a.middle.guarantor_a && is_set_up a.middle.guarantor_b) (is_set_up a.middle.joint) e))

    split-stays : (o : List AssetOutcome) → IsSplit a.middle.terms o → IsSplit b.middle.terms o
    split-stays o x =
        subst (λ (t : Terms). IsSplit t o) (terms-same s h journal fair later past newer front pa qa v g k a.middle.terms b.middle.terms a.middle.joint b.middle.joint a.joint b.joint) x

    -- what is known of the joint channel
    pub core-carries : (closing : Bool) (last : Option StateParts) → closing ≡ b.middle.closing
        → Core a.middle.terms a.middle.joint.opening closing (middles.are_set_up a.middle) (holds 5 a.middle.joint) (IsSplit a.middle.terms) last
        → Core b.middle.terms b.middle.joint.opening b.middle.closing (middles.are_set_up b.middle) (holds 5 b.middle.joint) (IsSplit b.middle.terms) last
    core-carries closing last same core =
        core-stays s h journal fair later past newer front pa qa v g k a.middle.terms b.middle.terms a.middle.joint b.middle.joint a.joint b.joint
        (middle-at m v a.middle a.is).g.amounts (middle-at new v b.middle b.is).g.amounts (middle-at m v a.middle a.is).middle (middle-at new v b.middle b.is).middle amounts
        closing b.middle.closing (middles.are_set_up a.middle) (middles.are_set_up b.middle) (IsSplit a.middle.terms) (IsSplit b.middle.terms) last same set-stays split-stays core

    -- nothing is signed there
    pub middle-carries : (was is : Option Command) → b.middle.closing ≡ a.middle.closing → last-of v.joint M ≡ last-of v.joint L
        → ((asset amount : ℕ) → is ≡ Some (commands.Pay v.joint asset amount) → ⊥) → MiddleCore v a.middle L was → MiddleCore v b.middle M is
    middle-carries was is closing joint unpaid x = record {
      core = subst (Core b.middle.terms b.middle.joint.opening b.middle.closing (middles.are_set_up b.middle) (holds 5 b.middle.joint) (IsSplit b.middle.terms)) (sym joint)
          (core-carries a.middle.closing (last-of v.joint L) (sym closing) x.core);
      unpaid = unpaid;
    }
