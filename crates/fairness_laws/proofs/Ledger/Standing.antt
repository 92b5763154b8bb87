-- What is known to be signed last in a ledger on which a part stands was signed last there.
use Rattle.std.proofs.Common.{◌≡◌, List, ◌∙◌, ap, subst, ℕ}
use Rattle.std.specs.Prelude.{Some, None}
use Rattle.std.specs.Option.{option_map}
use Rattle.channel_values.specs.Parts.{StateParts}
use Rattle.channel_safety.proofs.Tests.{cond-true}
use Rattle.call_history.specs.declared.entry.Entry.{Entry}
use Rattle.funding_plans.specs.declared.plan.Part.{Part}
use Rattle.channel_safety.specs.Journals.{In}
use Rattle.channel_node.specs.Minds.{facts_of}
use Rattle.channel_node.specs.Places.{Told, lines_of, mind_at}
use Rattle.channel_node.specs.Playing.{Signing}
use Rattle.share_laws.specs.Places.{last_made}
use Rattle.support_rules.specs.Real.{real}
use Rattle.fairness_laws.specs.JointKeeping.{EndsKeep, MiddlesKeep}
use Rattle.fairness_laws.specs.LedgerLaws.{LedgersKeep, LedgersBack, KnownLedgersKeep}
use Rattle.fairness_laws.specs.LedgerLending.{Lent}
use Rattle.fairness_laws.specs.LedgerPlaces.{is_ledger, own_at, parts_at, lends_at, KeepAt}
use Rattle.fairness_laws.specs.PaymentLaws.{At}
use Rattle.fairness_laws.specs.PlanLaws.{PartsAreKnown, PlansAreWhole}
use Rattle.fairness_laws.specs.PlanSettings.{IsFair}
use Rattle.fairness_laws.proofs.Joint.EndsKeep.{ends_keep}
use Rattle.fairness_laws.proofs.Joint.MiddlesKeep.{middles_keep}
use Rattle.fairness_laws.proofs.Ledger.Always.{always}
use Rattle.fairness_laws.proofs.Ledger.Lent.{LendsAt, lends-is}
use Rattle.fairness_laws.proofs.Seat.Past.{own-made}
use Rattle.fairness_laws.proofs.Ledger.Plans.{lent-on-ledger}
use Rattle.fairness_laws.proofs.Ledger.Ready.{part-at}
use Rattle.fairness_laws.proofs.Plan.Parts.{parts_are_known}
use Rattle.fairness_laws.proofs.Plan.Plans.{plans_are_whole}

module _ (s : Signing) (h : List Entry) (journal : List Told) (fair : IsFair s h journal) (known : PartsAreKnown) (whole : PlansAreWhole) (ends : EndsKeep)
    (middles : MiddlesKeep) (past : List Entry) (front : List Told) (at : At s h journal past front) where
  pub keeps-there : KeepAt s journal past front
  keeps-there = (always s h journal fair known whole ends middles past front at).keeps

  pub known-signed : (p : Part) (i : In p (parts_at s past front)) (l : List ℕ) (k : Lent) (last : StateParts) → lends_at s past front l p ≡ Some k → k.ledger.own ≡ Some last
      → own_at s.key journal front l ≡ Some last
  known-signed p i l k last is e =
      let t = own-made s h journal fair.nodes past front at.front_is a.on.fixed k.ledger.opening k.ledger a.on.seat last e in
      cond-true (is_ledger s.key journal l) (option_map (λ s. s.state) (last_made l (lines_of s.key front))) None
      (lent-on-ledger s h journal fair whole past front at.front_is p (part-at s h journal fair known ends middles past front at p i) i l k is)
      ∙ (ap (option_map (λ s. s.state)) (subst (λ (n : List ℕ). last_made n (lines_of s.key front) ≡ Some t.0) a.on.named t.1) ∙ ap (λ (z : StateParts). Some z) t.2)
    where
      a : LendsAt s past front l p k
      a = lends-is s past front p (part-at s h journal fair known ends middles past front at p i) l k is

  pub keep-known : LedgersKeep (facts_of (mind_at real s.key past front))
  keep-known p l k last i is signed = keeps-there.ledgers l last (known-signed p i l k last is signed)

pub ledgers_back : LedgersBack
ledgers_back s h journal fair past front at =
    keeps-there s h journal fair parts_are_known plans_are_whole ends_keep middles_keep past front at

pub known_ledgers_keep : KnownLedgersKeep
known_ledgers_keep s h journal fair past front at =
    keep-known s h journal fair parts_are_known plans_are_whole ends_keep middles_keep past front at
