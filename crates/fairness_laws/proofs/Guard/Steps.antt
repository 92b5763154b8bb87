-- What a seat wants comes next at its own turn, and follows from what is kept.
use Rattle.std.proofs.Common.{◌≡◌, ℕ, ◌+◌, ◌*◌, ◌-◌, ◌%◌, ◌^◌, ◌<◌, ◌≤◌, Bool, true, false, cond, ◌&&◌, ◌||◌, not, List, [], ◌∷◌, ◌==◌, length, refl, sym, ◌∙◌, ap, subst, arith}
use Rattle.std.proofs.lemmas.Bool.Decides.{nat_tests}
use Rattle.std.proofs.lemmas.List.{length-map}
use Rattle.std.specs.Prelude.{nat_le, nat_lt, Option, Some, None, is_none}
use Rattle.std.specs.List.{list_all}
use Rattle.std.specs.Option.{option_map}
use Rattle.std.specs.Str.{bytes_eq}
use Rattle.channel_values.specs.Outcomes.{IsOutcome}
use Rattle.channel_values.specs.Parts.{FixedParts, StateParts, state_with}
use Rattle.channel_values.specs.Spelling.{outcome}
use Rattle.channel_values.specs.declared.fault.StepFault.{StepFault}
use Rattle.channel_values.specs.declared.fault.StepFault.TheVariants as faults
use Rattle.channel_values.specs.declared.value.AssetOutcome.{AssetOutcome}
use Rattle.channel_values.specs.Digests.{name_of_person}
use Rattle.support_rules.specs.Ballots.{ballot_of}
use Rattle.support_rules.specs.Rules.{is_same_outcome, is_final_vote, consensus_fault, app_fault}
use Rattle.support_rules.specs.Toward.{Move, no_votes, moved, wanted_on, is_settled, wanted_toward}
use Rattle.support_rules.proofs.TowardSteps.{wanted_is_step}
use Rattle.channel_safety.proofs.Chains.{newest-in}
use Rattle.channel_safety.proofs.Tests.{some-eq, none-eq, and-left, and-right, and-both, cond-true, lt-true}
use Rattle.call_history.proofs.Names.{bytes_eq_self}
use Rattle.call_history.specs.Marked.{marked_of, next_after}
use Rattle.channel_values.specs.Rows.{mover, last_of}
use Rattle.channel_values.specs.Rules.{people, newest}
use Rattle.channel_values.specs.Words.{fault_if, ◌⊳◌}
use Rattle.channel_store.specs.Keeping.{is_held, is_ended, next_of, step_after, step_of}
use Rattle.channel_store.specs.Good.{IsGoodKept}
use Rattle.channel_store.specs.declared.kept.Kept.{Kept}
use Rattle.funding_plans.specs.declared.plan.Goal.{Goal}
use Rattle.channel_safety.specs.Journals.{In}
use Rattle.fairness_laws.proofs.Joint.Moves.{toward-is, next-turn}
use Rattle.fairness_laws.proofs.Payment.Sharing.{no-bytes}
use Rattle.fairness_laws.specs.PlanSeats.{seat_of}
use Rattle.channel_node.specs.Refusing.{follows}
use Rattle.funding_plans.specs.Limits.{is_valid}
use Rattle.funding_plans.specs.Seats.{Seat, has_no_data, is_turn, repeats, final_after, final_state, pass_after, pass_on, toward}
use Rattle.support_rules.specs.Real.{real}
use Rattle.support_rules.specs.Steps.{persons, step_fault}
use Rattle.fairness_laws.proofs.Finding.{not-true}
use Rattle.fairness_laws.proofs.Guarding.{opening-follows, final-follows}
use Rattle.fairness_laws.proofs.RootWishes.{Whens, when-some}
use Rattle.fairness_laws.specs.Carried.{IsRepeatedIfAny}
use Rattle.fairness_laws.specs.Roots.{SetsUp}

-- the state comes next, at the participant's own turn, and follows
pub record Comes (k : Kept) (s : StateParts) : Type 0 where
  pub next : s.turn ≡ next_of k
  pub mine : (mover (people k.chain.fixed) (next_of k) == k.me) ≡ true
  pub after : follows real k s ≡ true

-- ---- steps

high : (a b : ℕ) → b ≤ a → nat_lt a b ≡ false
high a b h = grind (arith, nat_tests)

move-lines : (before after up : Bool) (rest step : Option StepFault) → before ≡ false → after ≡ false → up ≡ false → step ≡ None
    → (fault_if (before && not after) faults.AfterFinal ⊳ fault_if (after && up) faults.EarlyFinal ⊳ cond (up || after) rest step) ≡ None
move-lines true after up rest step a b c d = absurd cc
move-lines false true up rest step a b c d = absurd cc
move-lines false false true rest step a b c d = absurd cc
move-lines false false false rest step a b c d = d

-- after the set-up, in a consensus channel
move-step : (f : FixedParts) (s t : StateParts) → f.app ≡ 0 → 2 * people f ≤ t.turn → s.is_final ≡ false → t.is_final ≡ false → consensus_fault (length (persons f)) s t ≡ None → step_fault f s t ≡ None
unfolding step_fault app_fault
move-step f s t app late going on step =
    move-lines s.is_final t.is_final (nat_lt t.turn (2 * length f.keys)) _ _ going on (high t.turn (2 * length f.keys) late)
    (cond-true (f.app == 0) (consensus_fault (length (persons f)) s t) _ (ap (λ (n : ℕ). n == 0) app) ∙ step)

pass-lines : (before bytes same up : Bool) (step : Option StepFault) → before ≡ false → bytes ≡ true → same ≡ true → step ≡ None
    → (fault_if (before && true) faults.AfterFinal ⊳ fault_if (false && up) faults.EarlyFinal ⊳ cond (up || false) (fault_if (not bytes) faults.Data ⊳ fault_if (not same) faults.Outcome) step) ≡ None
pass-lines true bytes same up step a b c d = absurd cc
pass-lines false false same up step a b c d = absurd cc
pass-lines false true false up step a b c d = absurd cc
pass-lines false true true true step a b c d = refl
pass-lines false true true false step a b c d = d

-- a pass, at any turn
pass-step : (f : FixedParts) (s : StateParts) (turn : ℕ) → f.app ≡ 0 → s.is_final ≡ false → s.app_bytes ≡ [] → step_fault f s (state_with turn false s.outcome []) ≡ None
unfolding step_fault app_fault
pass-step f s turn app going bare =
    pass-lines s.is_final (bytes_eq s.app_bytes []) (is_same_outcome s.outcome s.outcome) (nat_lt turn (2 * length f.keys)) _ going (ap (λ (bytes : List ℕ). bytes_eq bytes []) bare) (bytes_eq_self (outcome s.outcome))
    (cond-true (f.app == 0) (consensus_fault (length (persons f)) s (state_with turn false s.outcome [])) _ (ap (λ (n : ℕ). n == 0) app) ∙ calm (length (persons f)) s.app_bytes bare)
  where
    calm : (n : ℕ) (bytes : List ℕ) → bytes ≡ [] → consensus_fault n (record s { app_bytes = bytes }) (state_with turn false s.outcome []) ≡ None
    calm n [] e = ap (λ (b : Bool). fault_if (not b && not (is_final_vote no_votes no_votes s.outcome)) faults.Outcome) (bytes_eq_self (outcome s.outcome))
    calm n (b ∷ bytes) e = absurd cc

-- neither state of a move toward a target is final
record Open (s t : StateParts) : Type 0 where
  before : s.is_final ≡ false
  after : t.is_final ≡ false

toward-open : (n : ℕ) (goal : List AssetOutcome) (s : StateParts) (own : Option StateParts) (t : StateParts) → wanted_toward n goal s own ≡ Some t → Open s t
unfolding wanted_toward
toward-open n goal s own t e = by-end s.is_final refl (s.turn == 2 ^ 48 - 1) e
  where
    by-move : (w : Option Move) → option_map (moved s) w ≡ Some t → t.is_final ≡ false
    by-move None e = absurd (none-eq t e)
    by-move (Some m) e = sym (ap (λ (x : StateParts). x.is_final) (some-eq (moved s m) t e))

    by-end : (z : Bool) → s.is_final ≡ z → (last : Bool) → cond (z || last) None (option_map (moved s) (wanted_on n goal s (is_settled n goal own) (ballot_of n s.app_bytes))) ≡ Some t → Open s t
    by-end true f last e = absurd (none-eq t e)
    by-end false f true e = absurd (none-eq t e)
    by-end false f false e = record { before = f; after = by-move (wanted_on n goal s (is_settled n goal own) (ballot_of n s.app_bytes)) e }

-- ---- chains that aren't ended

neither : (b : Bool) → (b && false) ≡ false
neither true = refl
neither false = refl

open-last : (s : StateParts) (rest : List StateParts) → (last_of s rest).is_final ≡ false → list_all (λ x. x.is_final) (s ∷ rest) ≡ false
open-last s [] e = ap (λ (b : Bool). b && true) e
open-last s (t ∷ rest) e = ap (λ (b : Bool). s.is_final && b) (open-last t rest e) ∙ neither s.is_final

-- ---- what a seat wants

module _ (k : Kept) (opening : List AssetOutcome) where
  abbrev f : FixedParts
  f = k.chain.fixed

  abbrev c : Seat
  c = seat_of f opening k

  many : length c.people ≡ people f
  many = length-map f.keys name_of_person

  own-turn : is_turn c ≡ true → (mover (people f) (next_of k) == k.me) ≡ true
  own-turn e = subst (λ (n : ℕ). (next_of k % n == k.me) ≡ true) many e

  both-hold : (s : StateParts) → is_ended k ≡ false → step_of real k s ≡ None → follows real k s ≡ true
  both-hold s e st = and-both (not (is_ended k)) (is_none (step_of real k s)) (ap not e) (ap is_none st)

  -- the latest state that is held is what is kept last
  record Top (t : StateParts) : Type 0 where
    held : is_held k ≡ true
    newest_is : newest k.chain.states ≡ Some t
    next_is : next_of k ≡ t.turn + 1

  top-of : (t : StateParts) → c.top ≡ Some t → Top t
  top-of t e = go (is_held k) refl e
    where
      go : (b : Bool) → is_held k ≡ b → cond b (newest k.chain.states) None ≡ Some t → Top t
      go false h e = absurd (none-eq t e)
      go true h e = record { held = h; newest_is = e; next_is = ap next_after e }

  -- it isn't ended where that isn't final
  going-on : (t : StateParts) → newest k.chain.states ≡ Some t → t.is_final ≡ false → is_ended k ≡ false
  going-on t e on = ap (λ (b : Bool). is_held k && b) (by k.chain.states e) ∙ neither (is_held k)
    where
      by : (states : List StateParts) → newest states ≡ Some t → list_all (λ x. x.is_final) states ≡ false
      by [] e = absurd (none-eq t e)
      by (s ∷ rest) e = open-last s rest (ap (λ (x : StateParts). x.is_final) (some-eq (last_of s rest) t e) ∙ on)

  abbrev goal : Bool → Goal
  goal closing = record { part = 0; opening = opening; amounts = (0, 0); closing = closing; over = false }

  -- a repeated state of the set-up
  pub repeat-comes : IsGoodKept real k → IsRepeatedIfAny f opening (Some (marked_of k.chain)) → (from until : ℕ) → until ≤ 2 * people f → (s : StateParts) → repeats from until c ≡ Some s → Comes k s
  repeat-comes good carried from until few s e = record {
    next = sym (ap (λ (x : StateParts). x.turn) w.is);
    mine = own-turn (and-right (nat_le from (next_of k) && nat_lt (next_of k) until) (is_turn c) turns);
    after = subst (λ (x : StateParts). follows real k x ≡ true) w.is (opening-follows (goal false) k sets small);
  }
    where
      w : Whens (nat_le from (next_of k) && nat_lt (next_of k) until && is_turn c && is_valid opening) (state_with (next_of k) false opening []) s
      w = when-some (nat_le from (next_of k) && nat_lt (next_of k) until && is_turn c && is_valid opening) (state_with (next_of k) false opening []) s e

      turns : (nat_le from (next_of k) && nat_lt (next_of k) until && is_turn c) ≡ true
      turns = and-left (nat_le from (next_of k) && nat_lt (next_of k) until && is_turn c) (is_valid opening) w.holds

      small : next_of k < 2 * people f
      small =
          let l : next_of k < until = lt-true (next_of k) until (and-right (nat_le from (next_of k)) (nat_lt (next_of k) until) (and-left (nat_le from (next_of k) && nat_lt (next_of k) until) (is_turn c) turns)) in
          omega (arith, few)

      there : (states : List StateParts) (t : StateParts) → newest states ≡ Some t → In t states
      there [] t e = absurd (none-eq t e)
      there (x ∷ rest) t e = subst (λ (y : StateParts). In y (x ∷ rest)) (some-eq (last_of x rest) t e) (newest-in x rest)

      less : (a b : ℕ) → a + 1 < b → a < b
      less a b h = omega arith

      sets : SetsUp (goal false) k
      sets = record {
        good = good;
        repeats = λ t is up. record { state = t; there = there k.chain.states t is; repeated = carried t is (less t.turn (2 * people f) up) };
        closes = λ closing held-on. absurd cc;
      }

  -- a final state, after the set-up
  pub final-comes : IsGoodKept real k → 2 * people f ≤ next_of k → c.all_final ≡ false → (s : StateParts) → final_state c ≡ Some s → Comes k s
  final-comes good late going s e = by c.top refl e
    where
      by : (o : Option StateParts) → c.top ≡ o → final_after c o ≡ Some s → Comes k s
      by None is e = absurd (none-eq s e)
      by (Some t) is e = record {
        next = sym (ap (λ (x : StateParts). x.turn) w.is);
        mine = own-turn (and-right (has_no_data t && nat_lt (next_of k) (2 ^ 48)) (is_turn c) w.holds);
        after = subst (λ (x : StateParts). follows real k x ≡ true) w.is
            (final-follows (goal true) k t sets refl refl top.newest_is going (and-left (has_no_data t) (nat_lt (next_of k) (2 ^ 48)) (and-left (has_no_data t && nat_lt (next_of k) (2 ^ 48)) (is_turn c) w.holds)));
      }
        where
          top : Top t
          top = top-of t is

          w : Whens (has_no_data t && nat_lt (next_of k) (2 ^ 48) && is_turn c) (state_with (next_of k) true t.outcome []) s
          w = when-some (has_no_data t && nat_lt (next_of k) (2 ^ 48) && is_turn c) (state_with (next_of k) true t.outcome []) s e

          over : (n next turn : ℕ) → n ≤ next → next ≡ turn + 1 → turn + 1 < n → ⊥
          over n next turn a b l = absurd (omega arith)

          sets : SetsUp (goal true) k
          sets = record { good = good; repeats = λ u is up. absurd (over (2 * people f) (next_of k) u.turn late (ap next_after is) up); closes = λ closing held-on. late }

  -- a pass
  pub pass-comes : f.app ≡ 0 → (on : List AssetOutcome) (s : StateParts) → pass_on on c ≡ Some s → Comes k s
  pass-comes app on s e = by c.top refl e
    where
      by : (o : Option StateParts) → c.top ≡ o → pass_after c on o ≡ Some s → Comes k s
      by None is e = absurd (none-eq s e)
      by (Some t) is e = record {
        next = sym (ap (λ (x : StateParts). x.turn) w.is) ∙ sym top.next_is;
        mine = own-turn (and-left (is_turn c) (not t.is_final) first);
        after = subst (λ (x : StateParts). follows real k x ≡ true) w.is
            (both-hold (state_with (t.turn + 1) false t.outcome []) (going-on t top.newest_is open-state)
            (ap (step_after real k (state_with (t.turn + 1) false t.outcome [])) top.newest_is
            ∙ pass-step f t (t.turn + 1) app open-state (no-bytes t.app_bytes (and-right (is_turn c && not t.is_final && nat_lt (t.turn + 1) (2 ^ 48)) (has_no_data t) bare))));
      }
        where
          top : Top t
          top = top-of t is

          w : Whens (is_turn c && not t.is_final && nat_lt (t.turn + 1) (2 ^ 48) && has_no_data t && is_same_outcome t.outcome on) (state_with (t.turn + 1) false t.outcome []) s
          w = when-some (is_turn c && not t.is_final && nat_lt (t.turn + 1) (2 ^ 48) && has_no_data t && is_same_outcome t.outcome on) (state_with (t.turn + 1) false t.outcome []) s e

          bare : (is_turn c && not t.is_final && nat_lt (t.turn + 1) (2 ^ 48) && has_no_data t) ≡ true
          bare = and-left (is_turn c && not t.is_final && nat_lt (t.turn + 1) (2 ^ 48) && has_no_data t) (is_same_outcome t.outcome on) w.holds

          first : (is_turn c && not t.is_final) ≡ true
          first = and-left (is_turn c && not t.is_final) (nat_lt (t.turn + 1) (2 ^ 48)) (and-left (is_turn c && not t.is_final && nat_lt (t.turn + 1) (2 ^ 48)) (has_no_data t) bare)

          open-state : t.is_final ≡ false
          open-state = not-true t.is_final (and-right (is_turn c) (not t.is_final) first)

  -- a consensus move toward a target, after the set-up
  pub move-comes : f.app ≡ 0 → 2 ≤ people f → 2 * people f ≤ next_of k → (target : Option (List AssetOutcome)) (s : StateParts) → toward target c ≡ Some s
      → ((top : StateParts) (t : List AssetOutcome) → c.top ≡ Some top → target ≡ Some t → is_valid t ≡ true → IsOutcome t) → Comes k s
  move-comes app several late target s e reads =
      let x = toward-is target c s e in
      let top = top-of x.top x.top_is in
      let on = toward-open (length c.people) x.goal x.top c.own s x.wanted in
      let next : s.turn ≡ next_of k = next-turn (length c.people) x.goal x.top c.own s x.wanted ∙ sym top.next_is in
      record {
        next = next;
        mine = own-turn x.turn;
        after = both-hold s (going-on x.top top.newest_is on.before)
            (ap (step_after real k s) top.newest_is
            ∙ move-step f x.top s app (subst (λ (n : ℕ). 2 * people f ≤ n) (sym next) late) on.before on.after
            (wanted_is_step (length c.people) (subst (λ (n : ℕ). 2 ≤ n) (sym many) several) x.goal (reads x.top x.goal x.top_is x.goal_is x.valid) x.top c.own s x.wanted));
      }
