-- What is known of the joint channels of a node's virtual channels, of what ledgers set aside for these: what is
-- opened has gone up.
use Rattle.std.proofs.Common.{◌≡◌, ℕ, true, false, List, ◌⊎◌, inl, inr, sym, subst}
use Rattle.std.specs.Prelude.{Some}
use Rattle.channel_safety.proofs.Tests.{and-left}
use Rattle.call_history.specs.declared.entry.Entry.{Entry}
use Rattle.funding_plans.specs.declared.plan.Goal.{Goal}
use Rattle.funding_plans.specs.declared.plan.Part.{Part}
use Rattle.funding_plans.specs.declared.plan.Part.TheVariants as kinds
use Rattle.funding_plans.specs.declared.plan.Virtual.{Virtual}
use Rattle.channel_safety.specs.Journals.{In}
use Rattle.channel_node.specs.Minds.{facts_of}
use Rattle.channel_node.specs.Places.{Told, lines_of, mind_at}
use Rattle.channel_node.specs.Playing.{Signing}
use Rattle.funding_plans.specs.Seats.{state_is}
use Rattle.support_rules.specs.Real.{real}
use Rattle.virtual_channel.specs.Middles.{is_without, is_settled_back}
use Rattle.fairness_laws.specs.JointKeeping.{EndKeeps, MiddleKeeps, EndsKeep, MiddlesKeep}
use Rattle.fairness_laws.specs.LedgerLending.{Lent}
use Rattle.fairness_laws.specs.LedgerPlaces.{parts_at, lends_at}
use Rattle.fairness_laws.specs.PaymentLaws.{At}
use Rattle.fairness_laws.specs.PlanLaws.{PartAt, PartsAreKnown}
use Rattle.fairness_laws.specs.PlanParts.{EndIs, MiddleIs}
use Rattle.fairness_laws.specs.PlanSettings.{IsFair}
use Rattle.fairness_laws.proofs.Ledger.Lent.{by-kind, of-a}

-- nothing more is signed in the part's joint channel
abbrev pub Rests : Part → Lent → Type 0
Rests (kinds.Root c) k = ⊥
Rests (kinds.OnLedger l c) k = ⊥
Rests (kinds.End v) k = k.falls ≡ true
Rests (kinds.Middle v) k = (k.falls ≡ true) ⊎ ((k.closing ≡ false) × (k.done ≡ true))

module _ (s : Signing) (h : List Entry) (journal : List Told) (fair : IsFair s h journal) (known : PartsAreKnown) (ends : EndsKeep) (middles : MiddlesKeep)
    (past : List Entry) (front : List Told) (at : At s h journal past front) where
  pub part-at : (p : Part) → In p (parts_at s past front) → PartAt s past front p
  part-at p i = known s h journal past front fair.nodes at.front_is p i

  pub end-keeps : (v : Virtual) (g : Goal) → In (kinds.End v) (parts_at s past front) → (e : EndIs s.key past (lines_of s.key front) (facts_of (mind_at real s.key past front)) v g)
      → EndKeeps g e.end
  end-keeps v g i e = ends s h journal past front fair at v g i e

  pub middle-keeps : (v : Virtual) (g : Goal) → In (kinds.Middle v) (parts_at s past front)
      → (m : MiddleIs s.key past (lines_of s.key front) (facts_of (mind_at real s.key past front)) v g) → MiddleKeeps g m.middle
  middle-keeps v g i m = middles s h journal past front fair at v g i m

  module _ (p : Part) (i : In p (parts_at s past front)) where
    there : (q : Part) → q ≡ p → In q (parts_at s past front)
    there q same = subst (λ (z : Part). In z (parts_at s past front)) (sym same) i

    pub ready-at : (l : List ℕ) (k : Lent) → lends_at s past front l p ≡ Some k → k.closing ≡ false → k.done ≡ true → k.is_up ≡ true
    ready-at l k is =
        by-kind s past front (λ (l : List ℕ) (p : Part) (k : Lent). k.closing ≡ false → k.done ≡ true → k.is_up ≡ true) p (part-at p i)
        (λ l c g o same found running done. done)
        (λ v g e same found running done. (end-keeps v g (there (kinds.End v) same) e).past (inr done))
        (λ v g m same found running done. (middle-keeps v g (there (kinds.Middle v) same) m).past (inr done))
        (λ v g m same found differ running done. (middle-keeps v g (there (kinds.Middle v) same) m).past (inr done)) l k is

    -- what may go down closes
    pub falls-closes : (l : List ℕ) (k : Lent) → lends_at s past front l p ≡ Some k → k.falls ≡ true → k.closing ≡ true
    falls-closes l k is =
        by-kind s past front (λ (l : List ℕ) (p : Part) (k : Lent). k.falls ≡ true → k.closing ≡ true) p (part-at p i)
        (λ l c g o same found e. e) (λ v g y same found e. and-left y.end.closing (state_is (is_without y.end.terms) y.end.joint.own) e)
        (λ v g y same found e. and-left y.middle.closing (is_settled_back y.middle) e)
        (λ v g y same found differ e. and-left y.middle.closing (is_settled_back y.middle) e) l k is

    pub rests-up : (l : List ℕ) (k : Lent) → lends_at s past front l p ≡ Some k → Rests p k → k.is_up ≡ true
    rests-up l k is =
        by-kind s past front (λ (l : List ℕ) (p : Part) (k : Lent). Rests p k → k.is_up ≡ true) p (part-at p i)
        (λ l c g o same found r. absurd r)
        (λ v g e same found r. (end-keeps v g (there (kinds.End v) same) e).past (inl (and-left e.end.closing (state_is (is_without e.end.terms) e.end.joint.own) r)))
        (λ v g m same found r. of v g m same r)
        (λ v g m same found differ r. of v g m same r) l k is
      where
        of : (v : Virtual) (g : Goal) (m : MiddleIs s.key past (lines_of s.key front) (facts_of (mind_at real s.key past front)) v g) → kinds.Middle v ≡ p → Rests (kinds.Middle v) (of-a m.middle)
            → (of-a m.middle).is_up ≡ true
        of v g m same (inl falls) = (middle-keeps v g (there (kinds.Middle v) same) m).past (inl (and-left m.middle.closing (is_settled_back m.middle) falls))
        of v g m same (inr o) = (middle-keeps v g (there (kinds.Middle v) same) m).past (inr o.1)
