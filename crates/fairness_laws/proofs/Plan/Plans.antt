-- Plans are whole: by what is known of each part.
use Rattle.std.proofs.Common.{◌≡◌, ℕ, true, List, inl, inr, sym, ◌∙◌, ap, subst}
use Rattle.channel_values.specs.Parts.{FixedParts}
use Rattle.channel_values.specs.declared.value.AssetOutcome.{AssetOutcome}
use Rattle.call_history.specs.Flows.{is_among}
use Rattle.funding_plans.specs.Parts.{channels}
use Rattle.funding_plans.specs.declared.plan.Part.{Part}
use Rattle.funding_plans.specs.declared.plan.Part.TheVariants.{Root, OnLedger, End, Middle}
use Rattle.channel_safety.specs.Journals.{In}
use Rattle.channel_safety.proofs.Members.{Joined, joined}
use Rattle.channel_node.specs.Minds.{Mind}
use Rattle.channel_node.specs.Places.{lines_of, mind_at}
use Rattle.node_guarantees.proofs.Apart.{Apart}
use Rattle.node_guarantees.proofs.Growing.{channels_told, Grows}
use Rattle.node_guarantees.proofs.Telling.{places_tell_shares}
use Rattle.node_guarantees.specs.Orders.{orders_of}
use Rattle.stage_tables.specs.Stages.{stages}
use Rattle.share_laws.specs.Finality.{RestsOnNoPayments}
use Rattle.share_laws.specs.Turns.{names}
use Rattle.share_laws.specs.Bases.{bases_of, all_bases}
use Rattle.share_laws.specs.Places.{plan}
use Rattle.share_laws.specs.Plans.{IsPlan}
use Rattle.support_rules.specs.Real.{real}
use Rattle.fairness_laws.proofs.Seat.Past.{occurs}
use Rattle.fairness_laws.proofs.Apps.{no-payments}
use Rattle.fairness_laws.specs.PlanLaws.{PlansAreWhole}
use Rattle.fairness_laws.proofs.Plan.Known.{OfLedger, Of, goal-of, GoalOf}
use Rattle.fairness_laws.proofs.Plan.Names.{among-in, all-apart}
use Rattle.fairness_laws.proofs.Plan.Places.{Knows, knows-there, grown-there, apart-there}

-- ---- a part

-- a channel on which parts rest is a consensus channel
record IsBase (fs : List FixedParts) (name : List ℕ) : Type 0 where
  fixed : FixedParts
  there : In fixed fs
  named : real.named fixed ≡ name
  app : fixed.app ≡ 0

module _ (key : List ℕ) (fs : List FixedParts) (parts : List Part) where
  ledger-base : (first second name n : List ℕ) → OfLedger fs parts first second name → n ≡ name → IsBase fs n
  ledger-base first second name n o e = record { fixed = o.fixed; there = o.there; named = o.named ∙ sym e; app = o.app }

  base-is : (p : Part) (opening : List AssetOutcome) (amounts : ℕ × ℕ) → Of key fs parts p opening amounts → (n : List ℕ) → In n (bases_of p) → IsBase fs n
  base-is (Root name) opening amounts o n i = absurd i
  base-is (OnLedger ledger name) opening amounts o n (inl e) = ledger-base o.first o.second ledger n o.on e
  base-is (OnLedger ledger name) opening amounts o n (inr i) = absurd i
  base-is (End v) opening amounts o n (inl e) = record { fixed = o.on.fixed; there = o.on.there; named = o.on.named ∙ sym e; app = o.on.app }
  base-is (End v) opening amounts o n (inr (inl e)) = record { fixed = o.joint.fixed; there = o.joint.there; named = o.joint.named ∙ sym e; app = o.joint.app }
  base-is (End v) opening amounts o n (inr (inr i)) = absurd i
  base-is (Middle v) opening amounts o n (inl e) = ledger-base o.first o.middle v.ledger_a n o.on_a e
  base-is (Middle v) opening amounts o n (inr (inl e)) = ledger-base o.middle o.second v.ledger_b n o.on_b e
  base-is (Middle v) opening amounts o n (inr (inr (inl e))) = record { fixed = o.joint.fixed; there = o.joint.there; named = o.joint.named ∙ sym e; app = o.joint.app }
  base-is (Middle v) opening amounts o n (inr (inr (inr i))) = absurd i

-- ---- the law

pub plans_are_whole : PlansAreWhole
plans_are_whole s h journal past front nodes at = record {
  whole = subst IsPlan same (record { apart = all-apart (channels m.parts) apart; on_ledgers = knows.stands });
  channels_differ = all-apart (names real fs) grown.apart;
  rests = rests;
}
  where
    m : Mind
    m = mind_at real s.key past front

    fs : List FixedParts
    fs = channels_told s.key front

    knows : Knows s.key (channels_told s.key front) (mind_at real s.key past front).parts (mind_at real s.key past front).goals
    knows = knows-there s h journal nodes past front at

    grown : Grows real s.key front (mind_at real s.key past front)
    grown = grown-there s h journal nodes past front at

    apart : Apart (channels m.parts)
    apart = apart-there s h journal nodes past front at

    same : m.parts ≡ plan (orders_of real s.key journal) (lines_of s.key front)
    same = (places_tell_shares stages real s h journal past front nodes.legal nodes.plays at).parts

    goal : (p : Part) → In p m.parts → GoalOf s.key fs m.parts m.goals p
    goal p i = goal-of s.key fs m.parts m.goals p knows.paired apart i

    rests : RestsOnNoPayments real (orders_of real s.key journal) (lines_of s.key front)
    rests f i among = no-payments f (ap (λ (g : FixedParts). g.app) f-is ∙ base.app)
      where
        resting : Joined bases_of (real.named f) m.parts
        resting = joined bases_of (real.named f) m.parts
            (among-in (real.named f) (all_bases m.parts) (subst (λ (ps : List Part). is_among (real.named f) (all_bases ps) ≡ true) (sym same) among))

        base : IsBase fs (real.named f)
        base =
            let g = goal resting.from resting.there in
            base-is s.key fs m.parts resting.from g.goal.opening g.goal.amounts g.known (real.named f) resting.is

        f-is : f ≡ base.fixed
        f-is = nodes.distinct.names f base.fixed (occurs s h journal nodes past front at f i) (occurs s h journal nodes past front at base.fixed base.there) (sym base.named)
