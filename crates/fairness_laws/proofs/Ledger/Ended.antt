-- The channel of a virtual channel shares its total between the ends once it is over, whatever it is.
use Rattle.std.proofs.Common.{◌≡◌, true, List, [], ◌∷◌, ◌⊎◌, inl, inr, ◌∙◌, ap}
use Rattle.std.specs.Prelude.{Some}
use Rattle.channel_values.specs.Parts.{StateParts}
use Rattle.call_history.specs.declared.entry.Entry.{Entry}
use Rattle.funding_plans.specs.declared.plan.Goal.{Goal}
use Rattle.funding_plans.specs.declared.plan.Part.TheVariants as kinds
use Rattle.funding_plans.specs.declared.plan.Virtual.{Virtual}
use Rattle.channel_safety.specs.Journals.{In}
use Rattle.channel_node.specs.Minds.{Mind, facts_of}
use Rattle.channel_node.specs.Places.{Told, lines_of, mind_at}
use Rattle.channel_node.specs.Playing.{Signing}
use Rattle.share_laws.specs.Places.{outcomes_of}
use Rattle.funding_plans.specs.Gathered.{goal_in}
use Rattle.support_rules.specs.Real.{real}
use Rattle.fairness_laws.proofs.Joint.EndsKeep.{ends_keep}
use Rattle.fairness_laws.proofs.Joint.MiddlesKeep.{middles_keep}
use Rattle.fairness_laws.proofs.Ledger.Always.{Always, always, form-there}
use Rattle.fairness_laws.proofs.Ledger.Giving.{app-cases}
use Rattle.fairness_laws.proofs.Ledger.Over.{FormOf, bare-top, alone-own, own-signed}
use Rattle.fairness_laws.proofs.Outcomes.{alone}
use Rattle.fairness_laws.proofs.Payment.Ended.{own-ended}
use Rattle.fairness_laws.proofs.Payment.Shares.{end-pays}
use Rattle.fairness_laws.proofs.Plan.Parts.{parts_are_known}
use Rattle.fairness_laws.proofs.Plan.Plans.{plans_are_whole}
use Rattle.fairness_laws.proofs.Seat.Past.{own-made}
use Rattle.fairness_laws.specs.PaymentLaws.{At, Shares, SharesOver, EndsShareOver}
use Rattle.fairness_laws.specs.PlanParts.{EndIs}
use Rattle.fairness_laws.specs.PlanSettings.{IsFair}

module _ (s : Signing) (h : List Entry) (journal : List Told) (past : List Entry) (front : List Told) (fair : IsFair s h journal) (at : At s h journal past front) (v : Virtual) (g : Goal)
    (i : In (kinds.End v) (mind_at real s.key past front).parts) (found : goal_in (facts_of (mind_at real s.key past front)) v.channel ≡ Some g)
    (e : EndIs s.key past (lines_of s.key front) (facts_of (mind_at real s.key past front)) v g) (closing : e.end.closing ≡ true)
    (ended : e.end.channel.all_final ≡ true) where
  abbrev m : Mind
  m = mind_at real s.key past front

  -- its outcome is that of its latest state
  same-outcome : (t own : StateParts) → e.end.channel.top ≡ Some t → e.end.channel.own ≡ Some own → own.outcome ≡ t.outcome
  same-outcome t own top signed = (own-ended s h journal fair past (lines_of s.key front) at.place e.fixed g.opening e.end.channel e.seat ended t own top signed).1

  -- a payment channel
  of-payments : e.fixed.app ≡ 1 → SharesOver e.fixed v.asset v.total e.end.channel
  of-payments app = record {
    top = λ t is. (shares.top t is).0;
    own = λ t own top signed. (same-outcome t own top signed, alone own (shares.own own signed).1);
  }
    where
      shares : Shares e.fixed v.asset v.total e.end.channel
      shares = end-pays s h journal past front fair at v g i e app

  -- a virtual ledger
  of-ledger : e.fixed.app ≡ 0 → SharesOver e.fixed v.asset v.total e.end.channel
  of-ledger app = record {
    top = λ t is. bare-top s h journal fair parts_are_known plans_are_whole past front at w.keeps w.shut v g i found e app closing form t is;
    own = λ t own top signed. (same-outcome t own top signed, single own signed);
  }
    where
      w : Always s h journal fair parts_are_known plans_are_whole ends_keep middles_keep past front
      w = always s h journal fair parts_are_known plans_are_whole ends_keep middles_keep past front at

      form : FormOf s journal front v e.fixed
      form = form-there s h journal fair parts_are_known plans_are_whole ends_keep middles_keep past front at w v g i e

      single : (own : StateParts) → e.end.channel.own ≡ Some own → outcomes_of own ≡ own.outcome ∷ []
      single own signed =
          let x = own-made s h journal fair.nodes past front at.front_is e.fixed g.opening e.end.channel e.seat own signed in
          alone-own s h journal fair parts_are_known plans_are_whole past front at w.keeps w.shut v g i found e app closing form own
          (own-signed s h journal fair parts_are_known plans_are_whole past front at w.keeps w.shut v g i found e app closing form x.0 x.1 ∙ ap (λ (z : StateParts). Some z) x.2)

  over : SharesOver e.fixed v.asset v.total e.end.channel
  over = by (app-cases e.fixed.app e.app)
    where
      by : (e.fixed.app ≡ 0) ⊎ (e.fixed.app ≡ 1) → SharesOver e.fixed v.asset v.total e.end.channel
      by (inl app) = of-ledger app
      by (inr app) = of-payments app

pub ends_share_over : EndsShareOver
ends_share_over s h journal past front fair at v g i found e closing ended = over s h journal past front fair at v g i found e closing ended
