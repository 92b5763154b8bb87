-- The channel of an end that is a virtual ledger, from Close on: nothing stands on it any more, so it shares its
-- total between its two people.
use Rattle.std.proofs.Common.{◌≡◌, ℕ, true, false, List, [], ◌∷◌, ◌⊎◌, inl, inr, sym, ◌∙◌, ap, subst}
use Rattle.std.specs.Prelude.{Option, Some, None, slice_index_or}
use Rattle.std.specs.Option.{option_map}
use Rattle.channel_values.specs.Parts.{FixedParts, StateParts}
use Rattle.channel_values.specs.declared.chain.Signed.{Signed}
use Rattle.channel_values.specs.declared.value.AssetOutcome.{AssetOutcome}
use Rattle.channel_values.specs.declared.value.Dest.TheVariants.{Person, Channel}
use Rattle.channel_safety.proofs.Tests.{clash, cond-true}
use Rattle.call_history.specs.declared.entry.Entry.{Entry}
use Rattle.channel_values.specs.Amounts.{has}
use Rattle.funding_plans.specs.Shapes.{items_in}
use Rattle.funding_plans.specs.declared.plan.Goal.{Goal}
use Rattle.funding_plans.specs.declared.plan.Part.{Part}
use Rattle.funding_plans.specs.declared.plan.Part.TheVariants as kinds
use Rattle.funding_plans.specs.declared.plan.Virtual.{Virtual}
use Rattle.channel_safety.specs.Journals.{In}
use Rattle.channel_node.specs.Minds.{Mind, facts_of}
use Rattle.channel_node.specs.Places.{Told, lines_of, mind_at}
use Rattle.channel_node.specs.Playing.{Signing}
use Rattle.funding_plans.specs.Outcomes.{names}
use Rattle.share_laws.specs.Places.{last_made, outcomes_of}
use Rattle.funding_plans.specs.Gathered.{goal_in}
use Rattle.support_rules.specs.Real.{real}
use Rattle.support_rules.specs.Steps.{persons}
use Rattle.fairness_laws.proofs.Apps.{no-payments}
use Rattle.fairness_laws.proofs.Ledger.Closes.{ShutAt}
use Rattle.fairness_laws.proofs.Ledger.Form.{IsOfTwo, IsBareOfTwo, Form, bare-form, asset-is}
use Rattle.fairness_laws.proofs.Ledger.Plans.{lent-stands, end-is-ledger}
use Rattle.fairness_laws.proofs.Ledger.Shut.{IsShut}
use Rattle.fairness_laws.proofs.Seat.Held.{Tops, tops, top-could}
use Rattle.fairness_laws.proofs.Truths.{either}
use Rattle.fairness_laws.specs.LedgerKeeping.{LedgerKeeps, Backs, IsVoted}
use Rattle.fairness_laws.specs.LedgerLending.{Lent}
use Rattle.fairness_laws.specs.LedgerPlaces.{is_ledger, own_at, lends_at, KeepAt}
use Rattle.fairness_laws.specs.PaymentLaws.{At, IsShared}
use Rattle.fairness_laws.specs.PlanLaws.{PartsAreKnown, PlansAreWhole}
use Rattle.fairness_laws.specs.PlanParts.{EndIs}
use Rattle.fairness_laws.specs.PlanSettings.{IsFair}

-- the names of a channel's first two people
abbrev pub first-of : FixedParts → List ℕ
first-of f = slice_index_or (persons f) 0 []

abbrev pub second-of : FixedParts → List ℕ
second-of f = slice_index_or (persons f) 1 []

-- what such a channel can end with
abbrev pub FormOf : Signing → (journal front : List Told) → Virtual → FixedParts → Type 0
FormOf s journal front v f = Form (first-of f) (second-of f) v.asset v.total (own_at s.key journal front v.channel)

-- with nothing set aside it is shared
pub bare-shared : (f : FixedParts) (asset all : ℕ) (o : List AssetOutcome) → IsBareOfTwo (first-of f) (second-of f) asset all o → IsShared f asset all o
bare-shared f asset all o w = record { amounts = (w.a, w.b); is = w.is; sum = w.sum }

module _ (s : Signing) (h : List Entry) (journal : List Told) (fair : IsFair s h journal) (known : PartsAreKnown) (whole : PlansAreWhole) (past : List Entry) (front : List Told) (at : At s h journal past front)
    (keeps : KeepAt s journal past front) (shut : ShutAt s journal past front) (v : Virtual) (g : Goal) (there : In (kinds.End v) (mind_at real s.key past front).parts)
    (found : goal_in (facts_of (mind_at real s.key past front)) v.channel ≡ Some g) (e : EndIs s.key past (lines_of s.key front) (facts_of (mind_at real s.key past front)) v g) (app : e.fixed.app ≡ 0)
    (closing : e.end.closing ≡ true) (form : FormOf s journal front v e.fixed) where
  abbrev m : Mind
  m = mind_at real s.key past front

  abbrev own : Option StateParts
  own = own_at s.key journal front v.channel

  abbrev Bare : List AssetOutcome → Type 0
  Bare o = IsBareOfTwo (first-of e.fixed) (second-of e.fixed) v.asset v.total o

  -- what stands on it is over
  over : (p : Part) → In p m.parts → (k : Lent) → lends_at s past front v.channel p ≡ Some k → IsShut k own
  over p i k is =
      shut v.channel v.channel p k g i (lent-stands s past front p (known s h journal past front fair.nodes at.front_is p i) v.channel k is) is found (sym e.closing ∙ closing)

  module _ (last : StateParts) (signed : own ≡ Some last) where
    on-it : LedgerKeeps m.parts (lends_at s past front) v.channel last
    on-it = keeps.ledgers v.channel last signed

    unnamed : (p : Part) → In p m.parts → (k : Lent) → lends_at s past front v.channel p ≡ Some k → names k.child last.outcome ≡ false
    unnamed p i k is = by (either (names k.child last.outcome))
      where
        by : (names k.child last.outcome ≡ true) ⊎ (names k.child last.outcome ≡ false) → names k.child last.outcome ≡ false
        by (inr none) = none
        by (inl named) = let w = over p i k is in absurd (w.idle last signed (inr (w.closing, named)))

    pub bare-own : (o : List AssetOutcome) → In o (outcomes_of last) → IsBareOfTwo (first-of e.fixed) (second-of e.fixed) v.asset v.total o
    bare-own o j = bare-form (first-of e.fixed) (second-of e.fixed) v.asset v.total o w bare
      where
        w : IsOfTwo (first-of e.fixed) (second-of e.fixed) v.asset v.total o
        w = form last signed o j

        never : (x : List ℕ) → has (items_in v.asset o) (Channel x) ≡ true → (p : Part) (k : Lent) → In p m.parts → lends_at s past front v.channel p ≡ Some k → k.child.name ≡ x → ⊥
        never x named p k i is same =
            clash (names k.child o)
            (subst (λ (n : ℕ). has (items_in n o) (Channel k.child.name) ≡ true) (asset-is (first-of e.fixed) (second-of e.fixed) v.asset v.total o w k.child.asset (Person k.child.first) b.one)
            (subst (λ (n : List ℕ). has (items_in v.asset o) (Channel n) ≡ true) (sym same) named))
            (b.gone (over p i k is).closing (unnamed p i k is))
          where
            b : Backs k last o
            b = on-it.backs p k o i is j

        bare : (x : List ℕ) → has (items_in v.asset o) (Channel x) ≡ false
        bare x = by (either (has (items_in v.asset o) (Channel x)))
          where
            by : (has (items_in v.asset o) (Channel x) ≡ true) ⊎ (has (items_in v.asset o) (Channel x) ≡ false) → has (items_in v.asset o) (Channel x) ≡ false
            by (inr none) = none
            by (inl named) = let q = on-it.known v.asset x o j named in absurd (never x named q.0 q.1 q.2 q.3 q.4)

    -- and no votes stand
    pub alone-own : outcomes_of last ≡ last.outcome ∷ []
    alone-own = by on-it.quiet
      where
        votes : (p : Part) (k : Lent) → In p m.parts → lends_at s past front v.channel p ≡ Some k → IsVoted k last → ⊥
        votes p k i is (inl early) = clash k.closing (over p i k is).closing early.0
        votes p k i is (inr late) = clash (names k.child last.outcome) late.2 (unnamed p i k is)

        by : (outcomes_of last ≡ last.outcome ∷ []) ⊎ ((p : Part) × (k : Lent) × In p m.parts × (lends_at s past front v.channel p ≡ Some k) × IsVoted k last) → outcomes_of last ≡ last.outcome ∷ []
        by (inl single) = single
        by (inr (p, k, i, is, voted)) = absurd (votes p k i is voted)

  -- ---- its latest state

  pub own-signed : (t : Signed) → last_made (real.named e.fixed) (lines_of s.key front) ≡ Some t → own_at s.key journal front v.channel ≡ Some t.state
  own-signed t made =
      cond-true (is_ledger s.key journal v.channel) (option_map (λ (z : Signed). z.state) (last_made v.channel (lines_of s.key front))) None
      (end-is-ledger s h journal fair whole past front at.front_is v g there e app)
      ∙ ap (option_map (λ (z : Signed). z.state)) (subst (λ (n : List ℕ). last_made n (lines_of s.key front) ≡ Some t) e.named made)

  pub bare-top : (t : StateParts) → e.end.channel.top ≡ Some t → IsShared e.fixed v.asset v.total t.outcome
  bare-top t is =
      bare-shared e.fixed v.asset v.total t.outcome
      (bare-own w.last.state (own-signed w.last w.is) t.outcome (top-could s h journal fair past front at e.fixed g.opening e.end.channel e.seat (no-payments e.fixed app) t w))
    where
      w : Tops s h journal fair past front at e.fixed g.opening e.end.channel e.seat t
      w = tops s h journal fair past front at e.fixed g.opening e.end.channel e.seat t is
