-- What a seat wants in a joint channel keeps what is known of that.
use Rattle.std.proofs.Common.{◌≡◌, ◌≢◌, ℕ, ◌+◌, ◌-◌, ◌^◌, ◌<◌, ◌≤◌, Bool, true, false, cond, not, ◌&&◌, ◌||◌, List, [], ◌∷◌, ◌⊎◌, inl, inr, length, refl, sym, ◌∙◌, ap, subst, arith}
use Rattle.std.specs.Prelude.{◌==◌, nat_le, nat_lt, Option, Some, None}
use Rattle.std.specs.Option.{option_map}
use Rattle.channel_values.specs.Outcomes.{IsOutcome}
use Rattle.channel_values.specs.Parts.{FixedParts, StateParts, state_with}
use Rattle.channel_values.specs.declared.value.AssetOutcome.{AssetOutcome}
use Rattle.support_rules.specs.Ballots.{ballot_of}
use Rattle.support_rules.specs.Rules.{is_same_outcome}
use Rattle.support_rules.specs.Toward.{Move, moved, wanted_on, is_settled, wanted_toward}
use Rattle.channel_safety.proofs.Tests.{some-eq, none-eq, clash, and-left, and-right, lt-true}
use Rattle.call_history.specs.declared.entry.Entry.{Entry}
use Rattle.channel_values.specs.Rules.{people}
use Rattle.channel_safety.specs.Journals.{In}
use Rattle.channel_node.specs.Places.{Told, lines_of}
use Rattle.channel_node.specs.Playing as playing
use Rattle.fairness_laws.specs.PaymentLaws.{At}
use Rattle.fairness_laws.specs.PlanSeats.{SeatIs}
use Rattle.fairness_laws.specs.PlanSettings.{IsFair}
use Rattle.fairness_laws.proofs.Joint.Pays.{AreTerms, apart-read, together-outcome}
use Rattle.fairness_laws.proofs.Joint.Core.{Core, Signing}
use Rattle.fairness_laws.proofs.Seat.Held.{last-of, Tops, tops, top-could, top-valid, top-last, top-far}
use Rattle.fairness_laws.proofs.Joint.Outcomes.{together-asset, apart-asset}
use Rattle.fairness_laws.proofs.Outcomes.{alone, only}
use Rattle.funding_plans.specs.Limits.{is_valid}
use Rattle.funding_plans.specs.Targets.{apart, together}
use Rattle.funding_plans.specs.declared.terms.Terms.{Terms}
use Rattle.share_laws.specs.Places.{outcomes_of}
use Rattle.share_laws.proofs.Voting.{moves_end}
use Rattle.funding_plans.specs.Seats.{Seat, is_turn, has_no_data, repeats, toward, toward_after, pass_after, pass_on}
use Rattle.support_rules.specs.Real.{real}
use Rattle.fairness_laws.proofs.RootWishes.{Whens, when-some}

-- ---- moves

-- a move toward a target
pub record Toward (target : Option (List AssetOutcome)) (c : Seat) (state : StateParts) : Type 0 where
  pub top : StateParts
  pub top_is : c.top ≡ Some top
  pub goal : List AssetOutcome
  pub goal_is : target ≡ Some goal
  pub turn : is_turn c ≡ true
  pub valid : is_valid goal ≡ true
  pub wanted : wanted_toward (length c.people) goal top c.own ≡ Some state

pub toward-is : (target : Option (List AssetOutcome)) (c : Seat) (state : StateParts) → toward target c ≡ Some state → Toward target c state
toward-is target c state e = go c.top target refl refl e
  where
    go : (o : Option StateParts) (g : Option (List AssetOutcome)) → c.top ≡ o → target ≡ g → toward_after c o g ≡ Some state → Toward target c state
    go None g is aim e = absurd (none-eq state e)
    go (Some t) None is aim e = absurd (none-eq state e)
    go (Some t) (Some goal) is aim e = test (is_turn c && is_valid goal) refl e
      where
        test : (b : Bool) → (is_turn c && is_valid goal) ≡ b → cond b (wanted_toward (length c.people) goal t c.own) None ≡ Some state → Toward target c state
        test false z e = absurd (none-eq state e)
        test true z e = record { top = t; top_is = is; goal = goal; goal_is = aim; turn = and-left (is_turn c) (is_valid goal) z; valid = and-right (is_turn c) (is_valid goal) z; wanted = e }

-- it comes next
pub next-turn : (n : ℕ) (goal : List AssetOutcome) (s : StateParts) (own : Option StateParts) (t : StateParts) → wanted_toward n goal s own ≡ Some t → t.turn ≡ s.turn + 1
unfolding wanted_toward
next-turn n goal s own t e = by-end (s.is_final || (s.turn == 2 ^ 48 - 1)) e
  where
    by-move : (w : Option Move) → option_map (moved s) w ≡ Some t → t.turn ≡ s.turn + 1
    by-move None e = absurd (none-eq t e)
    by-move (Some m) e = sym (ap (λ (x : StateParts). x.turn) (some-eq (moved s m) t e))

    by-end : (z : Bool) → cond z None (option_map (moved s) (wanted_on n goal s (is_settled n goal own) (ballot_of n s.app_bytes))) ≡ Some t → t.turn ≡ s.turn + 1
    by-end true e = absurd (none-eq t e)
    by-end false e = by-move (wanted_on n goal s (is_settled n goal own) (ballot_of n s.app_bytes)) e

-- ---- in a joint channel

module _ (t : Terms) (opening : List AssetOutcome) (closing set five : Bool) (Back : List AssetOutcome → Type 0) (ab : ℕ × ℕ) (opens : opening ≡ apart t ab) (c : Seat) where
  -- a repeated state of the first rounds
  pub repeats-so : closing ≡ false → c.opening ≡ opening → (from until : ℕ) → (until ≤ 3) ⊎ (set ≡ true) → (state : StateParts) → repeats from until c ≡ Some state → Signing t opening closing set five Back state
  repeats-so going same from until early state e = record {
    sets = sets early;
    far = λ closed. absurd (clash closing closed going);
    low = λ low. ends;
    joins = λ going o i. inl (only state opening ends o i);
    parts = λ closed. absurd (clash closing closed going);
  }
    where
      w : Whens (nat_le from c.next && nat_lt c.next until && is_turn c && is_valid c.opening) (state_with c.next false c.opening []) state
      w = when-some (nat_le from c.next && nat_lt c.next until && is_turn c && is_valid c.opening) (state_with c.next false c.opening []) state e

      ends : outcomes_of state ≡ opening ∷ []
      ends =
          alone state (ap (λ (x : StateParts). x.app_bytes) (sym w.is))
          ∙ ap (λ (o : List AssetOutcome). o ∷ []) (ap (λ (x : StateParts). x.outcome) (sym w.is) ∙ same)

      turn : state.turn ≡ c.next
      turn = ap (λ (x : StateParts). x.turn) (sym w.is)

      small : c.next < until
      small =
          lt-true c.next until (and-right (nat_le from c.next) (nat_lt c.next until)
          (and-left (nat_le from c.next && nat_lt c.next until) (is_turn c) (and-left (nat_le from c.next && nat_lt c.next until && is_turn c) (is_valid c.opening) w.holds)))

      over : (a b u : ℕ) → a ≡ b → b < u → u ≤ 3 → 3 ≤ a → ⊥
      over a b u p q r far = absurd (omega arith)

      sets : (until ≤ 3) ⊎ (set ≡ true) → (closing ≡ true) ⊎ (3 ≤ state.turn) → set ≡ true
      sets early (inl closed) = absurd (clash closing closed going)
      sets (inl three) (inr far) = absurd (over state.turn c.next until turn small three far)
      sets (inr done) (inr far) = done

  -- ---- moves, by what is held

  module _ (s : playing.Signing) (h : List Entry) (journal : List Told) (fair : IsFair s h journal) (past : List Entry) (front : List Told) (at : At s h journal past front)
      (f : FixedParts) (o : List AssetOutcome) (seat : SeatIs s.key past (lines_of s.key front) f o c) (app : f.app ≢ 1) (three : people f ≡ 3) (named : t.asset < 2 ^ 32 → AreTerms t)
      (core : Core t opening closing set five Back (last-of (real.named f) (lines_of s.key front))) where
    abbrev TopIs : StateParts → Type 0
    TopIs top = Tops s h journal fair past front at f o c seat top

    -- the latest outcome is one that could be
    could : (top : StateParts) (w : TopIs top) → In top.outcome (outcomes_of w.last.state)
    could top w = top-could s h journal fair past front at f o c seat app top w

    last-is : (top : StateParts) (w : TopIs top) → last-of (real.named f) (lines_of s.key front) ≡ Some w.last.state
    last-is top w = top-last s h journal fair past front at f o c seat top w

    valid-top : (top : StateParts) → TopIs top → IsOutcome top.outcome
    valid-top top w = (top-valid s h journal fair past front at f o c seat top w).outcome

    far-turn : (top state : StateParts) → TopIs top → state.turn ≡ top.turn + 1 → 3 ≤ state.turn
    far-turn top state w next = far (people f) top.turn state.turn three (top-far s h journal fair past front at f o c seat top w) next
      where
        far : (n a b : ℕ) → n ≡ 3 → n ≤ a + 1 → b ≡ a + 1 → 3 ≤ b
        far n a b p q r = omega arith

    late : (n : ℕ) → 3 ≤ n → n < 3 → ⊥
    late n p q = absurd (omega arith)

    -- until Close, all to the payment channel
    pub joins-so : closing ≡ false → set ≡ true → five ≡ true → (state : StateParts) → toward (Some (together t)) c ≡ Some state → Signing t opening closing set five Back state
    joins-so going is-set is-five state e = record {
      sets = λ why. is-set;
      far = λ closed. absurd (clash closing closed going);
      low = λ low. absurd (late state.turn (far-turn x.top state w (next-turn (length c.people) x.goal x.top c.own state x.wanted)) low);
      joins = λ going q i. by q (moves_end (length c.people) (together t) target-is x.top c.own state wanted q i);
      parts = λ closed. absurd (clash closing closed going);
    }
      where
        x : Toward (Some (together t)) c state
        x = toward-is (Some (together t)) c state e

        w : TopIs x.top
        w = tops s h journal fair past front at f o c seat x.top x.top_is

        goal-is : together t ≡ x.goal
        goal-is = some-eq (together t) x.goal x.goal_is

        wanted : wanted_toward (length c.people) (together t) x.top c.own ≡ Some state
        wanted = subst (λ (g : List AssetOutcome). wanted_toward (length c.people) g x.top c.own ≡ Some state) (sym goal-is) x.wanted

        now : (x.top.outcome ≡ opening) ⊎ ((x.top.outcome ≡ together t) × (five ≡ true))
        now = core.joins going w.last.state x.top.outcome (last-is x.top w) (could x.top w)

        asset : (x.top.outcome ≡ opening) ⊎ ((x.top.outcome ≡ together t) × (five ≡ true)) → t.asset < 2 ^ 32
        asset (inl same) = apart-asset t ab (subst IsOutcome (same ∙ opens) (valid-top x.top w))
        asset (inr same) = together-asset t (subst IsOutcome same.0 (valid-top x.top w))

        target-is : IsOutcome (together t)
        target-is = together-outcome t (named (asset now)) (subst (λ (g : List AssetOutcome). is_valid g ≡ true) (sym goal-is) x.valid)

        by : (q : List AssetOutcome) → (q ≡ x.top.outcome) ⊎ (q ≡ together t) → (q ≡ opening) ⊎ ((q ≡ together t) × (five ≡ true))
        by q (inl same) = subst (λ (z : List AssetOutcome). (z ≡ opening) ⊎ ((z ≡ together t) × (five ≡ true))) (sym same) now
        by q (inr same) = inr (same, is-five)

    module _ (apart-back : (q : List AssetOutcome) → Back q → (cd : ℕ × ℕ) × (q ≡ apart t cd)) (closed : closing ≡ true) where
      now-back : (top : StateParts) → TopIs top → (top.outcome ≡ together t) ⊎ Back top.outcome
      now-back top w = core.parts closed w.last.state top.outcome (last-is top w) (could top w)

      -- from Close on, amounts for the ends
      pub parts-so : (cd : ℕ × ℕ) → (AreTerms t → (cd.0 < 2 ^ 64) × (cd.1 < 2 ^ 64)) → Back (apart t cd) → (state : StateParts) → toward (Some (apart t cd)) c ≡ Some state → Signing t opening closing set five Back state
      parts-so cd small back state e = record {
        sets = λ why. core.set_up (inl closed);
        far = λ closed. far-turn x.top state w (next-turn (length c.people) x.goal x.top c.own state x.wanted);
        low = λ low. absurd (late state.turn (far-turn x.top state w (next-turn (length c.people) x.goal x.top c.own state x.wanted)) low);
        joins = λ going. absurd (clash closing closed going);
        parts = λ closed q i. by q (moves_end (length c.people) (apart t cd) target-is x.top c.own state wanted q i);
      }
        where
          x : Toward (Some (apart t cd)) c state
          x = toward-is (Some (apart t cd)) c state e

          w : TopIs x.top
          w = tops s h journal fair past front at f o c seat x.top x.top_is

          goal-is : apart t cd ≡ x.goal
          goal-is = some-eq (apart t cd) x.goal x.goal_is

          wanted : wanted_toward (length c.people) (apart t cd) x.top c.own ≡ Some state
          wanted = subst (λ (g : List AssetOutcome). wanted_toward (length c.people) g x.top c.own ≡ Some state) (sym goal-is) x.wanted

          asset : (x.top.outcome ≡ together t) ⊎ Back x.top.outcome → t.asset < 2 ^ 32
          asset (inl same) = together-asset t (subst IsOutcome same (valid-top x.top w))
          asset (inr b) = let r = apart-back x.top.outcome b in apart-asset t r.0 (subst IsOutcome r.1 (valid-top x.top w))

          target-is : IsOutcome (apart t cd)
          target-is = apart-read t (named (asset (now-back x.top w))) cd (small (named (asset (now-back x.top w)))) (subst (λ (g : List AssetOutcome). is_valid g ≡ true) (sym goal-is) x.valid)

          by : (q : List AssetOutcome) → (q ≡ x.top.outcome) ⊎ (q ≡ apart t cd) → (q ≡ together t) ⊎ Back q
          by q (inl same) = subst (λ (z : List AssetOutcome). (z ≡ together t) ⊎ Back z) (sym same) (now-back x.top w)
          by q (inr same) = inr (subst Back (sym same) back)

      -- or a pass
      pub passes-so : (state : StateParts) → pass_on (together t) c ≡ Some state → Signing t opening closing set five Back state
      passes-so state e = go c.top refl e
        where
          go : (u : Option StateParts) → c.top ≡ u → pass_after c (together t) u ≡ Some state → Signing t opening closing set five Back state
          go None is e = absurd (none-eq state e)
          go (Some top) is e = record {
            sets = λ why. core.set_up (inl closed);
            far = λ closed. far-turn top state w turn;
            low = λ low. absurd (late state.turn (far-turn top state w turn) low);
            joins = λ going. absurd (clash closing closed going);
            parts = λ closed q i. subst (λ (z : List AssetOutcome). (z ≡ together t) ⊎ Back z) (sym (only state top.outcome ends q i)) (now-back top w);
          }
            where
              w : TopIs top
              w = tops s h journal fair past front at f o c seat top is

              v : Whens (is_turn c && not top.is_final && nat_lt (top.turn + 1) (2 ^ 48) && has_no_data top && is_same_outcome top.outcome (together t)) (state_with (top.turn + 1) false top.outcome []) state
              v = when-some (is_turn c && not top.is_final && nat_lt (top.turn + 1) (2 ^ 48) && has_no_data top && is_same_outcome top.outcome (together t)) (state_with (top.turn + 1) false top.outcome []) state e

              turn : state.turn ≡ top.turn + 1
              turn = ap (λ (y : StateParts). y.turn) (sym v.is)

              ends : outcomes_of state ≡ top.outcome ∷ []
              ends = alone state (ap (λ (y : StateParts). y.app_bytes) (sym v.is)) ∙ ap (λ (z : List AssetOutcome). z ∷ []) (ap (λ (y : StateParts). y.outcome) (sym v.is))
