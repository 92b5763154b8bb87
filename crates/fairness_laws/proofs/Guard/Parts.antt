-- A node signs what a part of its plan wants.
use Rattle.std.proofs.Common.{◌≡◌, ℕ, Bool, true, false, cond, ◌&&◌, List, ◌==◌, refl, sym, ◌∙◌, ap, subst, arith}
use Rattle.std.proofs.lemmas.Bool.Decides.{nat_tests}
use Rattle.std.specs.Prelude.{is_none, Option, Some, None}
use Rattle.channel_values.specs.Parts.{FixedParts, StateParts}
use Rattle.channel_safety.proofs.Tests.{none-eq, and-both, cond-true}
use Rattle.call_history.specs.declared.entry.Entry.{Entry}
use Rattle.call_history.specs.declared.event.NodeRefusal.{NodeRefusal}
use Rattle.channel_values.specs.Rows.{mover}
use Rattle.channel_values.specs.Rules.{people}
use Rattle.channel_store.specs.Keeping.{next_of}
use Rattle.channel_store.specs.Storing.{kept_of}
use Rattle.channel_store.specs.declared.kept.Kept.{Kept}
use Rattle.funding_plans.specs.Known.{FactsOf}
use Rattle.funding_plans.specs.declared.plan.Part.{Part}
use Rattle.funding_plans.specs.declared.plan.Part.TheVariants.{Root, OnLedger, End, Middle}
use Rattle.ledger_channel.specs.Stages.{wanted_on_ledger}
use Rattle.channel_safety.specs.Journals.{In}
use Rattle.channel_node.specs.Minds.{Mind, facts_of}
use Rattle.channel_node.specs.Places.{Told, lines_of, mind_at}
use Rattle.channel_node.specs.Playing.{Signing}
use Rattle.channel_node.specs.Refusing.{is_open, stands_in, not_open, wish_staying, wish, follows, can_sign, if_signable, signs_of, signs_in}
use Rattle.stage_tables.specs.Stages.{stages}
use Rattle.fairness_laws.proofs.Channels.{channel-of}
use Rattle.fairness_laws.proofs.Guard.Children.{child-open, child-comes}
use Rattle.fairness_laws.proofs.Guard.Ends.{end-open, end-comes}
use Rattle.fairness_laws.proofs.Guard.Middles.{middle-open, middle-comes}
use Rattle.fairness_laws.proofs.Guard.Seats.{Stands}
use Rattle.fairness_laws.proofs.Guard.Steps.{Comes}
use Rattle.fairness_laws.proofs.Joint.EndsKeep.{ends_keep}
use Rattle.fairness_laws.proofs.Joint.MiddlesKeep.{middles_keep}
use Rattle.fairness_laws.proofs.Ledger.Standing.{known_ledgers_keep}
use Rattle.fairness_laws.proofs.Ledger.Upright.{ledgers_stand_at_places}
use Rattle.fairness_laws.proofs.Plan.Holding.{Holds}
use Rattle.fairness_laws.proofs.Plan.Parts.{parts_are_known}
use Rattle.fairness_laws.proofs.Roots.{asked-own}
use Rattle.fairness_laws.proofs.Signing.{kept-of}
use Rattle.fairness_laws.specs.Guarding.{PartsSignAtPlaces}
use Rattle.fairness_laws.specs.LedgerLaws.{LedgersKeep, LedgersStand}
use Rattle.fairness_laws.specs.PaymentLaws.{At}
use Rattle.fairness_laws.specs.PlanLaws.{PartAt}
use Rattle.fairness_laws.specs.PlanSettings.{IsFair}
use Rattle.stage_tables.specs.Asked.{wanted_of, asked_in, wanted_in}
use Rattle.share_laws.specs.Places.{channels}
use Rattle.funding_plans.specs.Gathered.{goal_in}
use Rattle.support_rules.specs.Real.{real}
use Rattle.virtual_channel.specs.Stages.{wanted_of_end, wanted_of_middle}
use Rattle.fairness_laws.proofs.Finding.{asked-there}
use Rattle.fairness_laws.proofs.Places.{at_places}

-- what is wished while no payment waits is wanted, and every live channel is open
record Wishes (m : Mind) (channel : List ℕ) (state : StateParts) : Type 0 where
  live : not_open stages (facts_of m) ≡ None
  wants : wanted_in (facts_of m) channel ≡ Some state

wishes : (m : Mind) (channel : List ℕ) (k : Kept) (state : StateParts) → wish stages None m channel k ≡ Some state → Wishes m channel state
wishes m channel k state e = by m.left e
  where
    clear : (o : Option NodeRefusal) → not_open stages (facts_of m) ≡ o → cond (is_none o) (wanted_in (facts_of m) channel) None ≡ Some state → Wishes m channel state
    clear None live e = record { live = live; wants = e }
    clear (Some refusal) live e = absurd (none-eq state e)

    by : (left : Bool) → cond left None (wish_staying stages None m channel k) ≡ Some state → Wishes m channel state
    by true e = absurd (none-eq state e)
    by false e = clear (not_open stages (facts_of m)) refl e

-- what is wished, comes next and follows is signed where the channel is open
signs-so : (m : Mind) (channel : List ℕ) (k : Kept) (state : StateParts) → kept_of channel m.kept ≡ Some k → Stands (facts_of m) channel → wish stages None m channel k ≡ Some state → Comes k state
    → signs_in stages real None m channel ≡ Some state
signs-so m channel k state kept open-there wished c =
    ap (signs_of stages real None m channel) kept
    ∙ (ap (if_signable real (facts_of m) channel k) wished ∙ cond-true (can_sign real (facts_of m) channel k state) (Some state) None can)
  where
    same-number : (a : ℕ) → (a == a) ≡ true
    same-number a = grind (arith, nat_tests)

    can : can_sign real (facts_of m) channel k state ≡ true
    can =
        and-both (follows real k state) (((state.turn == next_of k) && (mover (people k.chain.fixed) state.turn == k.me)) && is_open (stands_in (facts_of m) channel)) c.after
        (and-both ((state.turn == next_of k) && (mover (people k.chain.fixed) state.turn == k.me)) (is_open (stands_in (facts_of m) channel))
        (subst (λ (n : ℕ). ((n == next_of k) && (mover (people k.chain.fixed) n == k.me)) ≡ true) (sym c.next)
        (and-both (next_of k == next_of k) (mover (people k.chain.fixed) (next_of k) == k.me) (same-number (next_of k)) c.mine)) open-there)

module _ (s : Signing) (h : List Entry) (journal : List Told) (fair : IsFair s h journal) (past : List Entry) (front : List Told) (at : At s h journal past front)
    (f : FixedParts) (k : Kept) (state : StateParts) (own : In f (channels (lines_of s.key front))) (kept : kept_of (real.named f) (mind_at real s.key past front).kept ≡ Some k)
    (wished : wish stages None (mind_at real s.key past front) (real.named f) k ≡ Some state) where
  abbrev m : Mind
  m = mind_at real s.key past front

  abbrev facts : FactsOf
  facts = facts_of m

  abbrev c : List ℕ
  c = real.named f

  w : Wishes m c state
  w = wishes m c k state wished

  ledgers : LedgersKeep facts × LedgersStand facts
  ledgers = (known_ledgers_keep s h journal fair past front at, ledgers_stand_at_places s h journal fair past front at)

  known-there : (p : Part) → In p m.parts → PartAt s past front p
  known-there p i = parts_are_known s h journal past front fair.nodes at.front_is p i

  -- a channel that holds its own funds
  of-root : (name : List ℕ) → asked_in facts c ≡ Some (Root name) → In (Root name) m.parts → signs_in stages real None m c ≡ Some state
  of-root name asked i =
      at_places s h journal fair.nodes.signs fair.nodes.legal fair.nodes.plays fair.unforged fair.nodes.distinct fair.nodes.valid f p.goal k state (record {
        later = at.front_is.later;
        past = past;
        newer = at.front_is.newer;
        front = front;
        entries = at.front_is.entries;
        events = at.front_is.events;
        few = at.front_is.few;
        opened = channel-of s h journal past front at f own holds.kept.me holds.mine;
        before = at.front_is.before;
        asked = asked ∙ ap (λ (n : List ℕ). Some (Root n)) (sym named);
        goal = subst (λ (n : List ℕ). goal_in facts n ≡ Some p.goal) (sym named) p.found;
        keeps = kept;
      }) wished
    where
      p : PartAt s past front (Root name)
      p = known-there (Root name) i

      named : c ≡ name
      named = asked-own facts c name asked

      holds : Holds s.key past (lines_of s.key front) m f
      holds = kept-of s h journal fair past front at f own

  -- the others
  of-part : (p : Part) → asked_in facts c ≡ Some p → In p m.parts → signs_in stages real None m c ≡ Some state
  of-part (Root name) asked i = of-root name asked i
  of-part (OnLedger ledger name) asked i =
      let p = known-there (OnLedger ledger name) i in
      let row = sym (ap (wanted_on_ledger c) p.is.is) ∙ (sym (ap (wanted_of facts c) asked) ∙ w.wants) in
      signs-so m c k state kept (child-open s h journal fair past front at f own k kept state w.live ledgers.0 ledger name p.goal p.found p.is i row) wished
      (child-comes s h journal fair past front at f own k kept state w.live ledgers.0 ledger name p.goal p.found p.is i row)
  of-part (End v) asked i =
      let p = known-there (End v) i in
      let keeps = ends_keep s h journal past front fair at v p.goal i p.is in
      let row = sym (ap (wanted_of_end c) p.is.is) ∙ (sym (ap (wanted_of facts c) asked) ∙ w.wants) in
      signs-so m c k state kept (end-open s h journal fair past front at f own k kept state w.live ledgers.0 ledgers.1 v p.goal p.found p.is i keeps row) wished
      (end-comes s h journal fair past front at f own k kept state w.live ledgers.0 ledgers.1 v p.goal p.found p.is i keeps row)
  of-part (Middle v) asked i =
      let p = known-there (Middle v) i in
      let keeps = middles_keep s h journal past front fair at v p.goal i p.is in
      let row = sym (ap (wanted_of_middle c) p.is.is) ∙ (sym (ap (wanted_of facts c) asked) ∙ w.wants) in
      signs-so m c k state kept (middle-open s h journal fair past front at f own k kept state w.live ledgers.0 ledgers.1 v p.goal p.found p.is i keeps row) wished
      (middle-comes s h journal fair past front at f own k kept state w.live ledgers.0 ledgers.1 v p.goal p.found p.is i keeps row)

  signs-there : signs_in stages real None m c ≡ Some state
  signs-there = by (asked_in facts c) refl
    where
      by : (o : Option Part) → asked_in facts c ≡ o → signs_in stages real None m c ≡ Some state
      by None is = absurd (none-eq state (sym (ap (wanted_of facts c) is) ∙ w.wants))
      by (Some p) is = of-part p is (asked-there facts c p is)

pub parts_sign_at_places : PartsSignAtPlaces
parts_sign_at_places s h journal past front fair at f k state own kept wished = signs-there s h journal fair past front at f k state own kept wished
