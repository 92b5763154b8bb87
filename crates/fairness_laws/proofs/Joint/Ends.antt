-- The joint channel at an end, from one place to the next.
use Rattle.std.proofs.Common.{◌≡◌, ℕ, Bool, true, false, ◌&&◌, List, ◌++◌, length, refl, sym, ◌∙◌, ap, subst}
use Rattle.std.specs.Prelude.{Option, Some, None}
use Rattle.channel_values.specs.Parts.{StateParts}
use Rattle.channel_values.specs.declared.value.AssetOutcome.{AssetOutcome}
use Rattle.channel_safety.proofs.Tests.{none-eq, and-left, and-right, and-both}
use Rattle.call_history.specs.declared.entry.Entry.{Entry}
use Rattle.funding_plans.specs.declared.plan.Goal.{Goal}
use Rattle.funding_plans.specs.declared.plan.Virtual.{Virtual}
use Rattle.channel_safety.specs.Journals.{Line}
use Rattle.network.specs.declared.command.Command.{Command}
use Rattle.network.specs.declared.command.Command.TheVariants as commands
use Rattle.channel_node.specs.Minds.{Mind, facts_of}
use Rattle.channel_node.specs.Places.{Told, lines_of, mind_at}
use Rattle.channel_node.specs.Playing.{Signing}
use Rattle.fairness_laws.specs.JointKeeping.{IsOver}
use Rattle.fairness_laws.specs.PaymentLaws.{At}
use Rattle.fairness_laws.specs.PlanParts.{EndIs}
use Rattle.fairness_laws.specs.PlanSettings.{IsFair}
use Rattle.fairness_laws.proofs.Joint.Core.{Late, Settled, Core}
use Rattle.fairness_laws.proofs.Seat.Held.{last-of}
use Rattle.fairness_laws.proofs.Joint.Places.{set-up-grows, ended-stays}
use Rattle.fairness_laws.proofs.Joint.Stays.{terms-same, joint-set, core-stays}
use Rattle.fairness_laws.proofs.Opening.Ends.{end-at}
use Rattle.fairness_laws.proofs.Opening.Seated.{seated}
use Rattle.funding_plans.specs.Outcomes.{amounts_in}
use Rattle.funding_plans.specs.Targets.{apart}
use Rattle.funding_plans.specs.declared.terms.Terms.{Terms}
use Rattle.funding_plans.specs.Seats.{Seat, holds, is_set_up, amounts_after}
use Rattle.support_rules.specs.Real.{real}
use Rattle.virtual_channel.specs.Ends as ends
use Rattle.virtual_channel.specs.Ends.{End}

-- ---- what is known of it at a place

pub record EndCore (v : Virtual) (p : End) (front : List Line) (waiting : Option Command) : Type 0 where
  pub core : Core p.terms p.joint.opening p.closing (ends.are_set_up p) (holds 5 p.joint) (IsOver p) (last-of v.joint front)
  -- the payment channel is past its set-up, or a payment waits, only where it is settled on that
  pub opened : p.closing ≡ false → Late 2 (last-of v.channel front) → Settled p.terms (last-of v.joint front)
  pub waits : (asset amount : ℕ) → waiting ≡ Some (commands.Pay v.channel asset amount) → Settled p.terms (last-of v.joint front)
  pub unpaid : (asset amount : ℕ) → waiting ≡ Some (commands.Pay v.joint asset amount) → ⊥

-- the three channels are set up
pub record AreSet (p : End) : Type 0 where
  pub guarantor : is_set_up p.guarantor ≡ true
  pub joint : is_set_up p.joint ≡ true
  pub channel : is_set_up p.channel ≡ true

are-set : (p : End) → ends.are_set_up p ≡ true → AreSet p
are-set p e = record {
  guarantor = and-left (is_set_up p.guarantor) (is_set_up p.joint) (and-left (is_set_up p.guarantor && is_set_up p.joint) (is_set_up p.channel) e);
  joint = and-right (is_set_up p.guarantor) (is_set_up p.joint) (and-left (is_set_up p.guarantor && is_set_up p.joint) (is_set_up p.channel) e);
  channel = and-right (is_set_up p.guarantor && is_set_up p.joint) (is_set_up p.channel) e;
}

set-are : (p : End) → AreSet p → ends.are_set_up p ≡ true
set-are p a = and-both (is_set_up p.guarantor && is_set_up p.joint) (is_set_up p.channel) (and-both (is_set_up p.guarantor) (is_set_up p.joint) a.guarantor a.joint) a.channel

-- what a state says the ends get
abbrev now-of : Terms → Option StateParts → Option (ℕ × ℕ)
now-of t top = amounts_after t.asset t.first t.second top

-- ---- from one place to a later one

module _ (s : Signing) (h : List Entry) (journal : List Told) (fair : IsFair s h journal) (later past : List Entry) (newer front : List Told)
    (pa : At s h journal past front) (qa : At s h journal (later ++ past) (newer ++ front)) where
  abbrev L : List Line
  L = lines_of s.key front

  abbrev M : List Line
  M = lines_of s.key (newer ++ front)

  abbrev m : Mind
  m = mind_at real s.key past front

  abbrev new : Mind
  new = mind_at real s.key (later ++ past) (newer ++ front)

  module _ (v : Virtual) (g k : Goal) (a : EndIs s.key past L (facts_of m) v g) (b : EndIs s.key (later ++ past) M (facts_of new) v k)
      (opening : (end-at new v b.end b.is).g.opening ≡ (end-at m v a.end a.is).g.opening) (amounts : (end-at new v b.end b.is).g.amounts ≡ (end-at m v a.end a.is).g.amounts) where
    same-terms : a.end.terms ≡ b.end.terms
    same-terms = terms-same s h journal fair later past newer front pa qa v g k a.end.terms b.end.terms a.end.joint b.end.joint a.joint b.joint

    -- the payment channel opens as before
    channel-opens : k.opening ≡ g.opening
    channel-opens =
        sym (ap (λ (c : Seat). c.opening) b.seat.is) ∙ ((seated new v.channel (end-at new v b.end b.is).g.opening b.end.channel (end-at new v b.end b.is).last).opening_is ∙ (opening
        ∙ (sym (seated m v.channel (end-at m v a.end a.is).g.opening a.end.channel (end-at m v a.end a.is).last).opening_is ∙ ap (λ (c : Seat). c.opening) a.seat.is)))

    set-stays : ends.are_set_up a.end ≡ true → ends.are_set_up b.end ≡ true
    set-stays e =
        let x = are-set a.end e in
        set-are b.end (record {
          guarantor = set-up-grows s h journal fair later past newer front pa qa a.guarantor.fixed b.guarantor.fixed _ _ a.end.guarantor b.end.guarantor
              a.guarantor.seat b.guarantor.seat (a.guarantor.named ∙ sym b.guarantor.named) x.guarantor;
          joint = joint-set s h journal fair later past newer front pa qa v g k a.end.terms b.end.terms a.end.joint b.end.joint a.joint b.joint x.joint;
          channel = set-up-grows s h journal fair later past newer front pa qa a.fixed b.fixed g.opening k.opening a.end.channel b.end.channel a.seat b.seat (a.named ∙ sym b.named) x.channel;
        })

    -- over is over
    over-stays : (o : List AssetOutcome) → IsOver a.end o → IsOver b.end o
    over-stays o x = by a.end.channel.top refl x.now
      where
        two : length b.end.channel.people ≡ 2
        two = ap (λ (c : Seat). length c.people) b.seat.is ∙ ap (λ (xs : List (List ℕ)). length xs) b.people

        by : (top : Option StateParts) → a.end.channel.top ≡ top → now-of a.end.terms top ≡ Some x.amounts → IsOver b.end o
        by None is e = absurd (none-eq x.amounts e)
        by (Some t) is e =
            let z = ended-stays s h journal fair later past newer front pa qa a.fixed b.fixed g.opening k.opening a.end.channel b.end.channel a.seat b.seat (a.named ∙ sym b.named) channel-opens two x.all_final t is in
            record {
              amounts = x.amounts;
              now = ap (now-of b.end.terms) z.is
                  ∙ (ap (λ (u : List AssetOutcome). Some (amounts_in b.end.terms.asset b.end.terms.first b.end.terms.second u)) z.same
                  ∙ (ap (λ (u : Terms). now-of u (Some t)) (sym same-terms) ∙ e));
              all_final = z.final;
              is = x.is ∙ ap (λ (u : Terms). apart u x.amounts) same-terms;
            }

    -- what is known of the joint channel
    pub core-carries : (closing : Bool) (last : Option StateParts) → closing ≡ b.end.closing
        → Core a.end.terms a.end.joint.opening closing (ends.are_set_up a.end) (holds 5 a.end.joint) (IsOver a.end) last
        → Core b.end.terms b.end.joint.opening b.end.closing (ends.are_set_up b.end) (holds 5 b.end.joint) (IsOver b.end) last
    core-carries closing last same core =
        core-stays s h journal fair later past newer front pa qa v g k a.end.terms b.end.terms a.end.joint b.end.joint a.joint b.joint (end-at m v a.end a.is).g.amounts (end-at new v b.end b.is).g.amounts
        (end-at m v a.end a.is).middle (end-at new v b.end b.is).middle amounts closing b.end.closing (ends.are_set_up a.end) (ends.are_set_up b.end) (IsOver a.end) (IsOver b.end) last same set-stays over-stays core

    pub settled-carries : (last : Option StateParts) → Settled a.end.terms last → Settled b.end.terms last
    settled-carries last z = subst (λ (t : Terms). Settled t last) same-terms z

    -- nothing is signed of both channels
    pub end-carries : (was is : Option Command) → b.end.closing ≡ a.end.closing → last-of v.joint M ≡ last-of v.joint L → last-of v.channel M ≡ last-of v.channel L
        → ((asset amount : ℕ) → is ≡ Some (commands.Pay v.channel asset amount) → Settled a.end.terms (last-of v.joint L)) → ((asset amount : ℕ) → is ≡ Some (commands.Pay v.joint asset amount) → ⊥)
        → EndCore v a.end L was → EndCore v b.end M is
    end-carries was is closing joint channel waits unpaid x = record {
      core = subst (Core b.end.terms b.end.joint.opening b.end.closing (ends.are_set_up b.end) (holds 5 b.end.joint) (IsOver b.end)) (sym joint)
          (core-carries a.end.closing (last-of v.joint L) (sym closing) x.core);
      opened = λ going late. moved (x.opened (sym closing ∙ going) (subst (Late 2) channel late));
      waits = λ asset amount e. moved (waits asset amount e);
      unpaid = unpaid;
    }
      where
        moved : Settled a.end.terms (last-of v.joint L) → Settled b.end.terms (last-of v.joint M)
        moved z = subst (Settled b.end.terms) (sym joint) (settled-carries (last-of v.joint L) z)
