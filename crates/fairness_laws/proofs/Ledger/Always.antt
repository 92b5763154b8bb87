-- At each place of a node's journal ledgers back what stands on them. Where the part whose channel a ledger is
-- closes, each part on it closes and is over there. Virtual ledgers share their totals between their people and what
-- stands on them.
use Rattle.std.proofs.Common.{◌≡◌, ℕ, ◌+◌, true, false, List, [], ◌∷◌, ◌⊎◌, inl, inr, refl, sym, ◌∙◌, ap, subst, arith}
use Rattle.std.specs.Prelude.{Some, None}
use Rattle.std.specs.Option.{option_map}
use Rattle.channel_values.specs.Outcomes.{total}
use Rattle.channel_values.specs.Parts.{FixedParts, StateParts}
use Rattle.channel_safety.proofs.Tests.{some-eq, none-eq, cond-false}
use Rattle.call_history.specs.declared.entry.Entry.{Entry}
use Rattle.funding_plans.specs.declared.plan.Goal.{Goal}
use Rattle.funding_plans.specs.declared.plan.Part.{Part}
use Rattle.funding_plans.specs.declared.plan.Part.TheVariants as kinds
use Rattle.funding_plans.specs.declared.plan.Virtual.{Virtual}
use Rattle.channel_safety.specs.Journals.{In, is_watched}
use Rattle.channel_node.proofs.Places.{mind-entry, mind-watched}
use Rattle.channel_node.specs.Minds.{Mind, facts_of}
use Rattle.channel_node.specs.Openings.{shared}
use Rattle.channel_node.specs.Places.{Told, lines_of, mind_at}
use Rattle.channel_node.specs.Playing.{Signing}
use Rattle.node_guarantees.proofs.Telling.{places_tell_shares}
use Rattle.node_guarantees.specs.Orders.{orders_of}
use Rattle.stage_tables.specs.Stages.{stages}
use Rattle.share_laws.specs.Places.{last_made, plan}
use Rattle.share_laws.proofs.Counts.{part-once}
use Rattle.support_rules.specs.Real.{real}
use Rattle.fairness_laws.proofs.Over.{AtEvent, IsKept, looked}
use Rattle.fairness_laws.proofs.Planned.{own-among}
use Rattle.fairness_laws.proofs.EventPlaces.{at-before, before-event, before-entry}
use Rattle.fairness_laws.proofs.Ledger.AtPlaces.{steps_keep, none-signed, own-looked, begins, looks}
use Rattle.fairness_laws.proofs.Ledger.Closes.{ShutIn, ShutAt, same-plan, event-shut}
use Rattle.fairness_laws.proofs.Ledger.Events.{event-step, event-first}
use Rattle.fairness_laws.proofs.Ledger.Form.{IsOfTwo, step-form}
use Rattle.fairness_laws.proofs.Ledger.Giving.{gives-back}
use Rattle.fairness_laws.proofs.Ledger.Over.{FormOf, first-of, second-of}
use Rattle.fairness_laws.proofs.Ledger.Quiet.{entry-step}
use Rattle.fairness_laws.proofs.Ledger.SetUps.{set_ups}
use Rattle.fairness_laws.proofs.Ledger.Shut.{IsShut}
use Rattle.fairness_laws.proofs.Ledger.Signing.{FirstBy}
use Rattle.fairness_laws.proofs.Plan.Bearers.{bears-among}
use Rattle.fairness_laws.proofs.Plan.Places.{kept-there}
use Rattle.fairness_laws.proofs.Plans.{whole-place}
use Rattle.fairness_laws.proofs.Seat.Past.{one-fixed}
use Rattle.fairness_laws.proofs.Signing.{planned}
use Rattle.fairness_laws.proofs.Truths.{either}
use Rattle.fairness_laws.specs.JointKeeping.{EndsKeep, MiddlesKeep}
use Rattle.fairness_laws.specs.LedgerLaws.{GivesBack}
use Rattle.fairness_laws.specs.LedgerPlaces.{is_ledger, own_at, parts_at, lends_at, KeepAt, StepAt}
use Rattle.fairness_laws.specs.PaymentLaws.{At, ActsNext}
use Rattle.fairness_laws.specs.PlanLaws.{PartAt, PartsAreKnown, PlansAreWhole}
use Rattle.fairness_laws.specs.PlanParts.{EndIs}
use Rattle.fairness_laws.specs.PlanSettings.{IsFair}

module _ (s : Signing) (h : List Entry) (journal : List Told) (fair : IsFair s h journal) (known : PartsAreKnown) (whole : PlansAreWhole) (ends : EndsKeep) (middles : MiddlesKeep) where
  -- the whole journal
  end : At s h journal h journal
  end = whole-place s h journal fair

  abbrev all : List Part
  all = plan (orders_of real s.key journal) (lines_of s.key journal)

  all-are : parts_at s h journal ≡ all
  all-are = (places_tell_shares stages real s h journal h journal fair.nodes.legal fair.nodes.plays end.front_is).parts

  -- a part that is there at a place is one of the whole plan
  in-end : (past : List Entry) (front : List Told) → At s h journal past front → (p : Part) → In p (parts_at s past front) → In p (parts_at s h journal)
  in-end past front at p i = subst (In p) (sym all-are) (planned s h journal fair past front at p i)

  -- ---- what is kept

  -- of each end of the whole plan
  abbrev Forms : List Told → Type 0
  Forms front =
      (v : Virtual) (g : Goal) → In (kinds.End v) (parts_at s h journal) → (e : EndIs s.key h (lines_of s.key journal) (facts_of (mind_at real s.key h journal)) v g) → FormOf s journal front v e.fixed

  pub record Always (past : List Entry) (front : List Told) : Type 0 where
    pub keeps : KeepAt s journal past front
    pub shut : ShutAt s journal past front
    pub forms : (v : Virtual) (g : Goal) → In (kinds.End v) (parts_at s h journal) → (e : EndIs s.key h (lines_of s.key journal) (facts_of (mind_at real s.key h journal)) v g)
        → FormOf s journal front v e.fixed

  -- so it is of each end at a place
  pub form-there : (past : List Entry) (front : List Told) → At s h journal past front → Always past front → (v : Virtual) (g : Goal) → In (kinds.End v) (parts_at s past front)
      → (e : EndIs s.key past (lines_of s.key front) (facts_of (mind_at real s.key past front)) v g) → FormOf s journal front v e.fixed
  form-there past front at was v g i e =
      subst (FormOf s journal front v)
      (one-fixed s h journal fair h journal end.front_is past front at.front_is y.is.fixed e.fixed y.is.seat.own.there e.seat.own.there (y.is.named ∙ sym e.named))
      (was.forms v y.goal j y.is)
    where
      j : In (kinds.End v) (parts_at s h journal)
      j = in-end past front at (kinds.End v) i

      y : PartAt s h journal (kinds.End v)
      y = known s h journal h journal fair.nodes end.front_is (kinds.End v) j

  -- ---- an event

  add-none : (a b n : ℕ) → a + b ≡ n → a + (b + total []) ≡ n
  add-none a b n e = go (total []) refl
    where
      go : (z : ℕ) → z ≡ 0 → a + (b + z) ≡ n
      go z none = omega arith

  module _ (past : List Entry) (x : Told) (front : List Told) (next : ActsNext s h journal past x front) (was : Always past front) where
    here : At s h journal past front
    here = at-before s h journal fair past x front next

    gives : GivesBack (facts_of (mind_at real s.key past front))
    gives p l k ab state i lends back aims falls = gives-back s h journal fair known whole past front here was.keeps was.shut (form-there past front here was) p l k ab i lends back falls

    step : StepAt s journal past past front (x ∷ front)
    step = event-step s h journal fair known whole ends middles (set_ups s h journal fair) past x front next was.keeps gives

    -- a first state
    first-form : (v : Virtual) (g : Goal) (j : In (kinds.End v) (parts_at s h journal)) (e : EndIs s.key h (lines_of s.key journal) (facts_of (mind_at real s.key h journal)) v g) (state : StateParts)
        → FirstBy s past front v.channel state → IsOfTwo (first-of e.fixed) (second-of e.fixed) v.asset v.total state.outcome
    first-form v g j e state f = by (known s h journal past front fair.nodes next.place (kinds.End v) there)
      where
        it-is : f.part ≡ kinds.End v
        it-is =
            part-once all (whole s h journal h journal fair.nodes end.front_is).whole.apart f.part (kinds.End v) (planned s h journal fair past front here f.part f.there) (subst (In (kinds.End v)) all-are j) v.channel
            (bears-among v.channel f.part f.bearing) (own-among (kinds.End v))

        there : In (kinds.End v) (parts_at s past front)
        there = subst (λ (p : Part). In p (parts_at s past front)) it-is f.there

        by : PartAt s past front (kinds.End v) → IsOfTwo (first-of e.fixed) (second-of e.fixed) v.asset v.total state.outcome
        by y = record {
          a = y.goal.amounts.0;
          b = y.goal.amounts.1;
          rest = [];
          is = f.is ∙ (ap (λ (z : Goal). z.opening) (some-eq f.goal y.goal (sym f.found ∙ y.found)) ∙ (y.is.opening
              ∙ ap (λ (z : FixedParts). shared z v.asset y.goal.amounts)
              (one-fixed s h journal fair past front next.place h journal end.front_is y.is.fixed e.fixed y.is.seat.own.there e.seat.own.there (y.is.named ∙ sym e.named))));
          others = λ p. refl;
          whole = add-none y.goal.amounts.0 y.goal.amounts.1 v.total y.is.joint.sum;
        }

    forms-next : Forms (x ∷ front)
    forms-next v g j e =
        step-form (first-of e.fixed) (second-of e.fixed) v.asset v.total (parts_at s past front) (lends_at s past front) (own_at s.key journal front) (parts_at s past (x ∷ front)) (lends_at s past (x ∷ front))
        (own_at s.key journal (x ∷ front)) was.keeps step v.channel (λ none state signed. by none state signed (either (is_ledger s.key journal v.channel))) (was.forms v g j e)
      where
        by : own_at s.key journal front v.channel ≡ None → (state : StateParts) → own_at s.key journal (x ∷ front) v.channel ≡ Some state
            → (is_ledger s.key journal v.channel ≡ true) ⊎ (is_ledger s.key journal v.channel ≡ false) → IsOfTwo (first-of e.fixed) (second-of e.fixed) v.asset v.total state.outcome
        by none state signed (inl on) =
            first-form v g j e state (event-first s h journal fair known whole ends middles (set_ups s h journal fair) past x front next was.keeps gives v.channel on none state signed)
        by none state signed (inr off) =
            absurd (none-eq state (sym (cond-false (is_ledger s.key journal v.channel) (option_map (λ s. s.state) (last_made v.channel (lines_of s.key (x ∷ front)))) None off) ∙ signed))

    acts-on : Always past (x ∷ front)
    acts-on = record {
      keeps = steps_keep (parts_at s past front) (lends_at s past front) (own_at s.key journal front) (parts_at s past (x ∷ front)) (lends_at s past (x ∷ front)) (own_at s.key journal (x ∷ front)) was.keeps step;
      shut = event-shut s h journal fair known whole ends middles past x front next was.keeps step was.shut;
      forms = forms-next;
    }

  -- ---- over the places

  abbrev AtPlace : List Entry → List Told → Type 0
  AtPlace past front = At s h journal past front → Always past front

  starts-so : (past : List Entry) → At s h journal past [] → Always past []
  starts-so past at = record {
    keeps = begins s h journal fair past at;
    shut = λ r l p k g i on is found closing. absurd (subst (In p) (places_tell_shares stages real s h journal past [] fair.nodes.legal fair.nodes.plays at.front_is).parts i);
    forms = λ v g j e last signed. absurd (none-eq last (sym (none-signed s h journal fair [] v.channel refl) ∙ signed));
  }

  looks-on : (past : List Entry) (x : Told) (front : List Told) → is_watched x.deed ≡ true → Always past front → Always past (x ∷ front)
  looks-on past x front w was = record {
    keeps = looks s h journal fair past x front w was.keeps;
    shut = subst (λ (m : Mind). ShutIn m (own_at s.key journal (x ∷ front))) (sym (mind-watched real s.key past x front (looked real x.deed x.command w)))
        (λ r l p k g i on is found closing. subst (IsShut k) (sym (own-looked s journal x front w l)) (was.shut r l p k g i on is found closing));
    forms = λ v g j e last signed. was.forms v g j e last (sym (own-looked s journal x front w v.channel) ∙ signed);
  }

  acts : (past : List Entry) (x : Told) (front : List Told) → AtEvent stages real s h journal past x front → AtPlace past front → At s h journal past (x ∷ front)
      → (is_watched x.deed ≡ true) ⊎ (is_watched x.deed ≡ false) → Always past (x ∷ front)
  acts past x front event was at (inl w) = looks-on past x front w (was (before-event s h journal past x front (inl w) at))
  acts past x front event was at (inr w) =
      let before = before-event s h journal past x front (inr event.len) at in
      acts-on past x front (record { place = before.front_is; then = at.front_is; acts = w; len = event.len }) (was before)

  sees-on : (past : List Entry) (e : Entry) (front : List Told) → At s h journal past front → At s h journal (e ∷ past) front
      → (mind_at real s.key (e ∷ past) front).parts ≡ (mind_at real s.key past front).parts → (mind_at real s.key (e ∷ past) front).goals ≡ (mind_at real s.key past front).goals
      → Always past front → Always (e ∷ past) front
  sees-on past e front before at parts goals was = record {
    keeps = steps_keep (parts_at s past front) (lends_at s past front) (own_at s.key journal front) (parts_at s (e ∷ past) front) (lends_at s (e ∷ past) front) (own_at s.key journal front) was.keeps step-now;
    shut = same-plan s h journal fair known whole ends middles past front before (e ∷ past) front at was.keeps step-now parts goals was.shut;
    forms = was.forms;
  }
    where
      step-now : StepAt s journal past (e ∷ past) front front
      step-now = entry-step s h journal fair known ends middles past e front before at

  at-places : IsKept stages real s h journal AtPlace
  at-places = record {
    first = starts-so;
    event = λ past x front event was at. acts past x front event was at (either (is_watched x.deed));
    look = λ past x front w was at. looks-on past x front w (was (before-event s h journal past x front (inl w) at));
    entry = λ past e front seen was at.
        let before = before-entry s h journal past e front seen at in
        let sees = mind-entry real s.key past e front seen in
        sees-on past e front before at (ap (λ (m : Mind). m.parts) sees) (ap (λ (m : Mind). m.goals) sees) (was before);
  }

  pub always : (past : List Entry) (front : List Told) → At s h journal past front → Always past front
  always past front at = kept-there s h journal fair.nodes past front at.front_is AtPlace at-places at
