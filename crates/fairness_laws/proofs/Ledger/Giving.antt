-- Once it closes a part gives back on each of its ledgers what was set aside.
use Rattle.std.proofs.Common.{◌≡◌, ℕ, zero, suc, ◌+◌, ◌≤◌, true, false, List, ◌∷◌, [], ◌⊎◌, inl, inr, refl, sym, ◌∙◌, ap, subst, arith}
use Rattle.std.specs.Prelude.{Option, Some, None}
use Rattle.std.specs.Str.{bytes_eq}
use Rattle.channel_values.specs.Parts.{FixedParts, StateParts}
use Rattle.channel_safety.proofs.Tests.{some-eq, none-eq, and-left}
use Rattle.call_history.specs.declared.entry.Entry.{Entry}
use Rattle.funding_plans.specs.declared.plan.Goal.{Goal}
use Rattle.funding_plans.specs.declared.plan.Part.{Part}
use Rattle.funding_plans.specs.declared.plan.Part.TheVariants as kinds
use Rattle.funding_plans.specs.declared.plan.Virtual.{Virtual}
use Rattle.fairness_laws.specs.LedgerLending.{Lent, of_funded, of_end, lent}
use Rattle.fairness_laws.specs.LedgerPlaces.{parts_at, KeepAt}
use Rattle.fairness_laws.specs.PlanLaws.{PartsAreKnown, PlansAreWhole}
use Rattle.channel_safety.specs.Journals.{In}
use Rattle.channel_node.specs.Minds.{Mind, facts_of}
use Rattle.channel_node.specs.Places.{Told, lines_of, mind_at}
use Rattle.channel_node.specs.Playing.{Signing}
use Rattle.funding_plans.specs.Outcomes.{amounts_in}
use Rattle.funding_plans.specs.declared.child.Child.{Child}
use Rattle.fairness_laws.proofs.Payment.Shares.{children_share, end-pays}
use Rattle.fairness_laws.specs.PaymentLaws.{At, IsShared}
use Rattle.fairness_laws.specs.PlanParts.{OnLedgerIs, EndIs, MiddleIs}
use Rattle.fairness_laws.specs.PlanSettings.{IsFair}
use Rattle.funding_plans.specs.Gathered.{goal_in}
use Rattle.funding_plans.specs.Seats.{Seat, state_is, amounts_after}
use Rattle.support_rules.specs.Real.{real}
use Rattle.support_rules.specs.Steps.{persons}
use Rattle.virtual_channel.specs.Middles as middles
use Rattle.virtual_channel.specs.Middles.{is_without}
use Rattle.fairness_laws.proofs.Ledger.Closes.{ShutAt}
use Rattle.fairness_laws.proofs.Ledger.Over.{FormOf, bare-top}
use Rattle.fairness_laws.proofs.Joint.Found.{found-sum}
use Rattle.fairness_laws.proofs.Ledger.Lent.{by-kind}
use Rattle.fairness_laws.proofs.Shared.{shared-amounts}

-- ---- amounts

-- what the latest state of a payment channel says of both people makes up the whole
shares-sum : (f : FixedParts) (asset all : ℕ) (first second : List ℕ) (c : Seat) → ((t : StateParts) → c.top ≡ Some t → IsShared f asset all t.outcome) → persons f ≡ first ∷ second ∷ [] → bytes_eq first second ≡ false → (ab : ℕ × ℕ)
    → amounts_after asset first second c.top ≡ Some ab → ab.0 + ab.1 ≡ all
shares-sum f asset all first second c shared-top people differ ab back = by c.top refl back
  where
    by : (o : Option StateParts) → c.top ≡ o → amounts_after asset first second o ≡ Some ab → ab.0 + ab.1 ≡ all
    by None is e = absurd (none-eq ab e)
    by (Some t) is e =
        let sh : IsShared f asset all t.outcome = shared-top t is in
        let same : sh.amounts ≡ ab =
        some-eq sh.amounts ab (sym (ap (λ (y : ℕ × ℕ). Some y) (ap (amounts_in asset first second) sh.is ∙ shared-amounts f asset first second people sh.amounts differ)) ∙ e) in
        subst (λ (y : ℕ × ℕ). y.0 + y.1 ≡ all) same sh.sum

-- ---- a part

-- either application
pub app-cases : (n : ℕ) → n ≤ 1 → (n ≡ 0) ⊎ (n ≡ 1)
app-cases zero few = inl refl
app-cases (suc zero) few = inr refl
app-cases (suc (suc n)) few = absurd (omega (arith, few))

module _ (s : Signing) (h : List Entry) (journal : List Told) (fair : IsFair s h journal) (known : PartsAreKnown) (whole : PlansAreWhole) (past : List Entry) (front : List Told) (at : At s h journal past front)
    (keeps : KeepAt s journal past front) (shut : ShutAt s journal past front)
    (form : (v : Virtual) (g : Goal) → In (kinds.End v) (parts_at s past front) → (e : EndIs s.key past (lines_of s.key front) (facts_of (mind_at real s.key past front)) v g) → FormOf s journal front v e.fixed) where
  abbrev m : Mind
  m = mind_at real s.key past front

  abbrev Gives : (ab : ℕ × ℕ) → Lent → Type 0
  Gives ab k = ab.0 + ab.1 ≡ k.child.a + k.child.b

  -- what was commanded of the part makes up the child's amount
  amounts-sum : (g : Goal) (k : Child) (n : ℕ) → g.amounts.0 + g.amounts.1 ≡ n → g.amounts ≡ (k.a, k.b) → n ≡ k.a + k.b
  amounts-sum g k n sum is = sym sum ∙ ap (λ (y : ℕ × ℕ). y.0 + y.1) is

  funded-back : (ledger name : List ℕ) (g : Goal) → In (kinds.OnLedger ledger name) m.parts → (o : OnLedgerIs s.key past (lines_of s.key front) (facts_of m) ledger name g) → (ab : ℕ × ℕ)
      → (of_funded o.funded).back ≡ Some ab → Gives ab (of_funded o.funded)
  funded-back ledger name g i o ab back =
      shares-sum o.fixed o.funded.child.asset (o.funded.child.a + o.funded.child.b) o.funded.child.first o.funded.child.second o.funded.channel
      (λ t is. ((children_share s h journal past front fair at ledger name g i o).top t is).0) o.people o.differ ab back

  -- what the channel of an end says once it closes
  end-top : (v : Virtual) (g : Goal) → In (kinds.End v) m.parts → goal_in (facts_of m) v.channel ≡ Some g → (e : EndIs s.key past (lines_of s.key front) (facts_of m) v g) → e.end.closing ≡ true
      → (e.fixed.app ≡ 0) ⊎ (e.fixed.app ≡ 1) → (t : StateParts) → e.end.channel.top ≡ Some t → IsShared e.fixed v.asset v.total t.outcome
  end-top v g i found e closing (inl app) t is = bare-top s h journal fair known whole past front at keeps shut v g i found e app closing (form v g i e) t is
  end-top v g i found e closing (inr app) t is = ((end-pays s h journal past front fair at v g i e app).top t is).0

  end-back : (v : Virtual) (g : Goal) → In (kinds.End v) m.parts → goal_in (facts_of m) v.channel ≡ Some g → (e : EndIs s.key past (lines_of s.key front) (facts_of m) v g) → (ab : ℕ × ℕ)
      → (of_end e.end).back ≡ Some ab → (of_end e.end).falls ≡ true → Gives ab (of_end e.end)
  end-back v g i found e ab back falls =
      shares-sum e.fixed v.asset v.total e.end.terms.first e.end.terms.second e.end.channel
      (end-top v g i found e (and-left e.end.closing (state_is (is_without e.end.terms) e.end.joint.own) falls) (app-cases e.fixed.app e.app))
      e.people e.joint.ends ab (subst (λ (n : ℕ). amounts_after n e.end.terms.first e.end.terms.second e.end.channel.top ≡ Some ab) e.joint.asset back)
      ∙ amounts-sum g e.end.child v.total e.joint.sum e.child.amounts

  middle-back : (v : Virtual) (g : Goal) (y : MiddleIs s.key past (lines_of s.key front) (facts_of m) v g) (k : Child) → g.amounts ≡ (k.a, k.b) → (ab : ℕ × ℕ) → middles.found y.middle ≡ Some ab
      → ab.0 + ab.1 ≡ k.a + k.b
  middle-back v g y k amounts ab back =
      found-sum y.middle.terms y.middle.joint.top ab back ∙ (y.joint.total ∙ amounts-sum g k v.total y.joint.sum amounts)

  pub gives-back : (p : Part) (l : List ℕ) (k : Lent) (ab : ℕ × ℕ) → In p m.parts → lent (facts_of m) l p ≡ Some k → k.back ≡ Some ab → k.falls ≡ true → ab.0 + ab.1 ≡ k.child.a + k.child.b
  gives-back p l k ab i lends back falls =
      by-kind s past front (λ (n : List ℕ) (q : Part) (j : Lent). In q m.parts → j.back ≡ Some ab → j.falls ≡ true → Gives ab j) p (known s h journal past front fair.nodes at.front_is p i)
      (λ n c g o same found there paid down. funded-back n c g there o ab paid) (λ v g e same found there paid down. end-back v g there found e ab paid down)
      (λ v g y same found there paid down. middle-back v g y y.middle.child_a y.child_a.amounts ab paid)
      (λ v g y same found differ there paid down. middle-back v g y y.middle.child_b y.child_b.amounts ab paid) l k lends i back falls
