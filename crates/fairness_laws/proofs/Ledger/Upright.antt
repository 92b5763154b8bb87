-- Ledgers that went up stand, at each place of a node's journal.
use Rattle.std.proofs.Common.{◌≡◌, true, false, ◌⊎◌, inl, inr, List, [], ◌∷◌, refl, subst}
use Rattle.std.specs.Prelude.{Some}
use Rattle.channel_safety.proofs.Tests.{clash}
use Rattle.call_history.specs.declared.entry.Entry.{Entry}
use Rattle.funding_plans.specs.declared.plan.Goal.{Goal}
use Rattle.funding_plans.specs.declared.plan.Part.{Part}
use Rattle.channel_safety.specs.Journals.{In}
use Rattle.channel_node.specs.Minds.{facts_of}
use Rattle.channel_node.specs.Places.{Told, mind_at}
use Rattle.channel_node.specs.Playing.{Signing}
use Rattle.funding_plans.specs.Gathered.{goal_in}
use Rattle.support_rules.specs.Real.{real}
use Rattle.share_laws.specs.Places.{outcomes_of}
use Rattle.fairness_laws.specs.JointKeeping.{EndsKeep, MiddlesKeep}
use Rattle.fairness_laws.proofs.Truths.{either}
use Rattle.fairness_laws.specs.LedgerKeeping.{LedgerKeeps, IsPending, IsVoted}
use Rattle.fairness_laws.specs.LedgerLaws.{LedgersStand, LedgersStandAtPlaces}
use Rattle.fairness_laws.specs.LedgerLending.{Lent}
use Rattle.fairness_laws.specs.LedgerPlaces.{own_at, parts_at, lends_at, KeepAt}
use Rattle.fairness_laws.specs.PaymentLaws.{At}
use Rattle.fairness_laws.specs.PlanLaws.{PartsAreKnown, PlansAreWhole}
use Rattle.fairness_laws.specs.PlanSettings.{IsFair}
use Rattle.funding_plans.specs.Outcomes.{names}
use Rattle.fairness_laws.proofs.Joint.EndsKeep.{ends_keep}
use Rattle.fairness_laws.proofs.Joint.MiddlesKeep.{middles_keep}
use Rattle.fairness_laws.proofs.Ledger.Plans.{lent-stands}
use Rattle.fairness_laws.proofs.Ledger.Ready.{falls-closes}
use Rattle.fairness_laws.proofs.Ledger.Always.{always}
use Rattle.fairness_laws.proofs.Ledger.Closes.{ShutAt}
use Rattle.fairness_laws.proofs.Ledger.Standing.{known-signed}
use Rattle.fairness_laws.proofs.Ledger.Steps.{same-lent}
use Rattle.fairness_laws.proofs.Ledger.Whole.{is-pending}
use Rattle.fairness_laws.proofs.Plan.Parts.{parts_are_known}
use Rattle.fairness_laws.proofs.Plan.Plans.{plans_are_whole}

module _ (s : Signing) (h : List Entry) (journal : List Told) (fair : IsFair s h journal) (known : PartsAreKnown) (whole : PlansAreWhole) (ends : EndsKeep) (middles : MiddlesKeep) where
  module _ (past : List Entry) (front : List Told) (at : At s h journal past front) where
    pub shut-there : ShutAt s journal past front
    shut-there = (always s h journal fair known whole ends middles past front at).shut

    pub stands-there : LedgersStand (facts_of (mind_at real s.key past front))
    stands-there p l k last i is known-last up which = record {
      up = record { alone = alone; named = named };
      stays_open = λ g found. runs g found (either g.closing);
    }
      where
        keeps : KeepAt s journal past front
        keeps = (always s h journal fair known whole ends middles past front at).keeps

        signed : own_at s.key journal front l ≡ Some last
        signed = known-signed s h journal fair known whole ends middles past front at p i l k last is known-last

        on-it : LedgerKeeps (parts_at s past front) (lends_at s past front) l last
        on-it = keeps.ledgers l last signed

        -- it may not go down
        low : k.falls ≡ false
        low = by which (either k.falls)
          where
            by : ((k.closing ≡ false) × (k.done ≡ false)) ⊎ ((k.closing ≡ true) × (k.falls ≡ false)) → (k.falls ≡ true) ⊎ (k.falls ≡ false) → k.falls ≡ false
            by (inl early) (inl falls) = absurd (clash k.closing (falls-closes s h journal fair known ends middles past front at p i l k is falls) early.0)
            by (inr late) f = late.1
            by w (inr none) = none

        named : names k.child last.outcome ≡ true
        named = (on-it.backs p k last.outcome i is (inl refl)).up up low

        waits : IsPending k last
        waits = by which
          where
            by : ((k.closing ≡ false) × (k.done ≡ false)) ⊎ ((k.closing ≡ true) × (k.falls ≡ false)) → IsPending k last
            by (inl early) = inl early
            by (inr late) = inr (late.0, named)

        -- no other part is pending, and for this one there are no votes
        alone : outcomes_of last ≡ last.outcome ∷ []
        alone = by on-it.quiet
          where
            votes : IsVoted k last → ⊥
            votes (inl early) = clash k.is_up up early.1
            votes (inr late) = clash k.falls late.1 low

            by : (outcomes_of last ≡ last.outcome ∷ []) ⊎ ((q : Part) × (j : Lent) × In q (parts_at s past front) × (lends_at s past front l q ≡ Some j) × IsVoted j last) → outcomes_of last ≡ last.outcome ∷ []
            by (inl a) = a
            by (inr (q, j, n, isj, voted)) =
                let w = is-pending (parts_at s past front) (lends_at s past front) (own_at s.key journal front) keeps l q j last n isj voted in
                let same : q ≡ p = keeps.one q p n i (record { ledger = l; lent = j; is = isj; last = last; signed = signed; pending = w })
                (record { ledger = l; lent = k; is = is; last = last; signed = signed; pending = waits }) in
                let its : j ≡ k = same-lent (lends_at s past front l p) j k (subst (λ (z : Part). lends_at s past front l z ≡ Some j) same isj) is in
                absurd (votes (subst (λ (z : Lent). IsVoted z last) its voted))

        runs : (g : Goal) → goal_in (facts_of (mind_at real s.key past front)) l ≡ Some g → (g.closing ≡ true) ⊎ (g.closing ≡ false) → g.closing ≡ false
        runs g found (inl closing) = absurd ((shut-there l l p k g i (lent-stands s past front p (known s h journal past front fair.nodes at.front_is p i) l k is) is found closing).idle last signed waits)
        runs g found (inr none) = none

pub ledgers_stand_at_places : LedgersStandAtPlaces
ledgers_stand_at_places s h journal fair past front at =
    stands-there s h journal fair parts_are_known plans_are_whole ends_keep middles_keep past front at
