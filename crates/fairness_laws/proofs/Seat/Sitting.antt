-- What a seat wants, by what is held.
use Rattle.std.proofs.Common.{◌≡◌, ◌≢◌, ℕ, ◌+◌, ◌*◌, ◌<◌, ◌≤◌, Bool, true, false, cond, ◌&&◌, not, List, [], ◌∷◌, ◌⊎◌, inl, inr, length, refl, sym, ◌∙◌, ap, subst, arith}
use Rattle.std.specs.Prelude.{◌^◌, nat_le, nat_lt, Option, Some, None}
use Rattle.std.specs.List.{AllByRecursion}
use Rattle.channel_values.specs.Outcomes.{IsOutcome}
use Rattle.channel_values.specs.Parts.{FixedParts, StateParts, IsState, state_with}
use Rattle.channel_values.specs.declared.chain.Signed.{Signed}
use Rattle.channel_values.specs.declared.value.AssetOutcome.{AssetOutcome}
use Rattle.channel_values.specs.declared.value.Dest.TheVariants.{Person}
use Rattle.channel_values.specs.Digests.{name_of_person}
use Rattle.support_rules.specs.Rules.{is_same_outcome}
use Rattle.support_rules.specs.Toward.{wanted_toward}
use Rattle.channel_values.specs.Amounts.{aff}
use Rattle.channel_values.specs.Rows.{last_of}
use Rattle.channel_values.specs.Rules.{people, newest}
use Rattle.call_history.specs.Flows.{is_among}
use Rattle.call_history.specs.History.{mode, rest_of_channel}
use Rattle.call_history.specs.Marked.{next_after}
use Rattle.call_history.specs.declared.entry.Entry.{Entry}
use Rattle.channel_store.specs.Keeping.{is_held}
use Rattle.channel_store.specs.declared.kept.Kept.{Kept}
use Rattle.channel_safety.proofs.Tests.{some-eq, none-eq, and-left, and-right, lt-true, cond-true, cond-false}
use Rattle.call_history.specs.Mode.{is_final}
use Rattle.funding_plans.specs.Shapes.{items_in, list_in}
use Rattle.channel_safety.specs.Held.{held}
use Rattle.channel_safety.specs.Journals.{In, Line}
use Rattle.funding_plans.specs.Limits.{is_valid}
use Rattle.share_laws.specs.Finality.{StandsFor}
use Rattle.support_rules.specs.May.{OneOf}
use Rattle.share_laws.specs.Bases.{all_bases}
use Rattle.share_laws.specs.Places as places
use Rattle.share_laws.specs.Places.{Order, plan, last_made, possible, possible_after, outcomes_of}
use Rattle.share_laws.specs.Fairly.{Wants, first, repeats, votes}
use Rattle.share_laws.specs.Wanted.{IsTarget}
use Rattle.funding_plans.specs.Seats as seats
use Rattle.funding_plans.specs.Seats.{Seat, when, is_turn, has_no_data, final_after, pass_after, toward_after}
use Rattle.support_rules.specs.Real.{real}
use Rattle.support_rules.proofs.ConsensusLaws.{same_outcome}
use Rattle.fairness_laws.proofs.RootWishes.{Whens, when-some}
use Rattle.fairness_laws.specs.Carried.{IsRepeatedIfAny}
use Rattle.fairness_laws.proofs.Seat.Past.{supported}
use Rattle.fairness_laws.specs.SeatSitting.{Sits}
use Rattle.fairness_laws.specs.SeatLaws.{RepeatsAreFair, FinalsAreFair, PassesAreFair, MovesAreFair}

-- one of these has it
pub one-of : {X : Type 0} (P : X → Type 0) (xs : List X) → OneOf P xs → (x : X) × In x xs × P x
one-of P [] h = absurd h
one-of P (x ∷ xs) (inl p) = (x, inl refl, p)
one-of P (x ∷ xs) (inr h) = let r = one-of P xs h in (r.0, inr r.1, r.2)

pub last-state : (s : StateParts) (rest : List StateParts) → IsState s → AllByRecursion IsState rest → IsState (last_of s rest)
last-state s [] h all = h
last-state s (t ∷ rest) h all = last-state t rest all.0 all.1

-- a state without data can end with its outcome alone
pub bare : (turn : ℕ) (fin : Bool) (o : List AssetOutcome) → outcomes_of (state_with turn fin o []) ≡ o ∷ []
bare turn fin o = refl

module _ (key : List ℕ) (orders : ℕ → Order) (past : List Entry) (front : List Line) (f : FixedParts) (opening : List AssetOutcome) (c : Seat)
    (sits : Sits key orders past front f opening c) where
  abbrev me : List ℕ
  me = name_of_person key

  abbrev k : Kept
  k = sits.seat.kept

  held-is : places.is_held real f (held real f past front) ≡ is_held k
  held-is = ap (places.is_held real f) sits.seat.at.chain ∙ sym (supported key past front f opening c sits.seat)

  -- while no chain is held it doesn't count
  nothing : is_held k ≡ false → possible real past front f ≡ []
  nothing e =
      cond-false (places.is_held real f (held real f past front))
      (possible_after (is_final (mode real (real.named f) past)) (rest_of_channel real (real.named f) past) (last_made (real.named f) front)) [] (held-is ∙ e)

  -- else it can end as the state that was signed last says
  pub could : is_held k ≡ true → (last : Signed) → last_made (real.named f) front ≡ Some last → possible real past front f ≡ outcomes_of last.state
  could e last is =
      cond-true (places.is_held real f (held real f past front))
      (possible_after (is_final (mode real (real.named f) past)) (rest_of_channel real (real.named f) past) (last_made (real.named f) front)) [] (held-is ∙ e)
      ∙ (ap (λ (b : Bool). possible_after b (rest_of_channel real (real.named f) past) (last_made (real.named f) front)) sits.going
      ∙ ap (possible_after false (rest_of_channel real (real.named f) past)) is)

  -- the latest state that is held, and the outcome for which its outcome stands
  pub record Topped (t : StateParts) : Type 0 where
    pub holds : is_held k ≡ true
    pub newest_is : newest k.chain.states ≡ Some t
    pub state : IsState t
    pub from : List AssetOutcome
    pub there : In from (possible real past front f)
    pub stands : StandsFor f me from t.outcome

  pub topped : (t : StateParts) → c.top ≡ Some t → Topped t
  topped t top = go (is_held k) refl (sym (ap (λ (x : Seat). x.top) sits.seat.is) ∙ top)
    where
      go : (b : Bool) → is_held k ≡ b → cond b (newest k.chain.states) None ≡ Some t → Topped t
      go false h e = absurd (none-eq t e)
      go true h e =
          let x = sits.held h in
          let same : last_of x.last.state x.ends.rest ≡ t = some-eq (last_of x.last.state x.ends.rest) t (sym x.ends.ends ∙ e) in
          let o = one-of (λ (p : List AssetOutcome). StandsFor f me p (last_of x.last.state x.ends.rest).outcome) (outcomes_of x.last.state) x.ends.possible in
          record {
            holds = h;
            newest_is = e;
            state = subst IsState same (last-state x.last.state x.ends.rest x.ends.valid x.ends.states);
            from = o.0;
            there = subst (In o.0) (sym (could h x.last x.is)) o.1;
            stands = subst (λ (y : StateParts). StandsFor f me o.0 y.outcome) same o.2;
          }

  -- what repeats the latest outcome
  again : (t state : StateParts) → Topped t → outcomes_of state ≡ state.outcome ∷ [] → state.outcome ≡ t.outcome → Wants real me orders past front f state
  again t state top alone same = go (is_among (real.named f) (all_bases (plan orders front))) refl
    where
      go : (b : Bool) → is_among (real.named f) (all_bases (plan orders front)) ≡ b → Wants real me orders past front f state
      go true on = repeats top.from alone top.there (inl (same ∙ top.stands.same (sits.rests on)))
      go false off =
          repeats top.from alone top.there (inr (
            off,
            record {
              affords = λ asset n. subst (λ (o : List AssetOutcome). aff (items_in asset top.from) n (Person me) ≤ aff (items_in asset o) n (Person me)) (sym same) (top.stands.affords asset n);
              lists = λ asset. ap (list_in asset) same ∙ top.stands.list asset;
            },
          ))

  turn-next : (t : StateParts) → newest k.chain.states ≡ Some t → c.next ≡ t.turn + 1
  turn-next t e = ap (λ (x : Seat). x.next) sits.seat.is ∙ ap next_after e

  -- ---- finals and passes

  final-fair : (state : StateParts) → seats.final_state c ≡ Some state → Wants real me orders past front f state
  final-fair state e = go c.top refl e
    where
      go : (o : Option StateParts) → c.top ≡ o → final_after c o ≡ Some state → Wants real me orders past front f state
      go None is h = absurd (none-eq state h)
      go (Some t) is h =
          let w = when-some (has_no_data t && nat_lt c.next (2 ^ 48) && is_turn c) (state_with c.next true t.outcome []) state h in
          subst (Wants real me orders past front f) w.is (again t (state_with c.next true t.outcome []) (topped t is) (bare c.next true t.outcome) refl)

  pass-fair : (on : List AssetOutcome) (state : StateParts) → seats.pass_on on c ≡ Some state → Wants real me orders past front f state
  pass-fair on state e = go c.top refl e
    where
      go : (o : Option StateParts) → c.top ≡ o → pass_after c on o ≡ Some state → Wants real me orders past front f state
      go None is h = absurd (none-eq state h)
      go (Some t) is h =
          let w = when-some (is_turn c && not t.is_final && nat_lt (t.turn + 1) (2 ^ 48) && has_no_data t && is_same_outcome t.outcome on)
          (state_with (t.turn + 1) false t.outcome []) state h in
          subst (Wants real me orders past front f) w.is (again t (state_with (t.turn + 1) false t.outcome []) (topped t is) (bare (t.turn + 1) false t.outcome) refl)

  -- ---- repeated states of the set-up

  repeat-fair : IsRepeatedIfAny f opening (held real f past front) → (from until : ℕ) → until ≤ 2 * people f → (state : StateParts) → IsState state → seats.repeats from until c ≡ Some state
      → Wants real me orders past front f state
  repeat-fair carried from until few state valid e = go (is_held k) refl
    where
      w : Whens (nat_le from c.next && nat_lt c.next until && is_turn c && is_valid c.opening) (state_with c.next false c.opening []) state
      w = when-some (nat_le from c.next && nat_lt c.next until && is_turn c && is_valid c.opening) (state_with c.next false c.opening []) state e

      opens : c.opening ≡ opening
      opens = ap (λ (x : Seat). x.opening) sits.seat.is

      low : c.next < until
      low = lt-true c.next until (and-right (nat_le from c.next) (nat_lt c.next until) (and-left (nat_le from c.next && nat_lt c.next until) (is_turn c) (and-left (nat_le from c.next && nat_lt c.next until && is_turn c) (is_valid c.opening) w.holds)))

      below : (a b n t : ℕ) → a < b → b ≤ n → a ≡ t + 1 → t < n
      below a b n t p q r = omega arith

      by-top : (t : StateParts) → Topped t → Wants real me orders past front f state
      by-top t top =
          let repeated = (subst (IsRepeatedIfAny f opening) sits.seat.at.chain carried) t top.newest_is (below c.next until (2 * people f) t.turn low few (turn-next t top.newest_is)) in
          let spelled : is_same_outcome t.outcome opening ≡ true = and-right (not t.is_final) (is_same_outcome t.outcome opening) (and-left (not t.is_final && is_same_outcome t.outcome opening) (has_no_data t) repeated) in
          let mine : IsOutcome opening = subst IsOutcome (sym (ap (λ (x : StateParts). x.outcome) w.is) ∙ opens) valid.outcome in
          subst (Wants real me orders past front f) w.is
          (again t (state_with c.next false c.opening []) top (bare c.next false c.opening) (opens ∙ sym (same_outcome t.outcome opening top.state.outcome mine spelled)))

      go : (b : Bool) → is_held k ≡ b → Wants real me orders past front f state
      go false h = first (nothing h)
      go true h =
          let x = sits.held h in
          let is : c.top ≡ Some (last_of x.last.state x.ends.rest) = ap (λ (y : Seat). y.top) sits.seat.is ∙ (cond-true (is_held k) (newest k.chain.states) None h ∙ x.ends.ends) in
          by-top (last_of x.last.state x.ends.rest) (topped (last_of x.last.state x.ends.rest) is)

  -- ---- moves

  move-fair : f.app ≢ 1 → (target : Option (List AssetOutcome)) (state : StateParts) → seats.toward target c ≡ Some state
      → ((top : StateParts) (t : List AssetOutcome) → c.top ≡ Some top → target ≡ Some t → is_valid t ≡ true → IsOutcome t × ((t ≡ top.outcome) ⊎ IsTarget real me orders past front f top.outcome t))
      → Wants real me orders past front f state
  move-fair other target state e fits = go c.top target refl refl e
    where
      go : (o : Option StateParts) (g : Option (List AssetOutcome)) → c.top ≡ o → target ≡ g → toward_after c o g ≡ Some state → Wants real me orders past front f state
      go None g is aim h = absurd (none-eq state h)
      go (Some s) None is aim h = absurd (none-eq state h)
      go (Some s) (Some t) is aim h = test (is_turn c && is_valid t) refl h
        where
          test : (b : Bool) → (is_turn c && is_valid t) ≡ b → cond b (wanted_toward (length c.people) t s c.own) None ≡ Some state → Wants real me orders past front f state
          test false z h = absurd (none-eq state h)
          test true z h =
              let top = topped s is in
              let fit = fits s t is aim (and-right (is_turn c) (is_valid t) z) in
              votes (length c.people) t s c.own fit.0 h (subst (λ (o : List AssetOutcome). In o (possible real past front f)) (sym (top.stands.same other)) top.there) fit.1

pub repeats_are_fair : RepeatsAreFair
repeats_are_fair key orders past front f opening c sits carried from until few state valid e =
    repeat-fair key orders past front f opening c sits carried from until few state valid e

pub finals_are_fair : FinalsAreFair
finals_are_fair key orders past front f opening c sits state e = final-fair key orders past front f opening c sits state e

pub passes_are_fair : PassesAreFair
passes_are_fair key orders past front f opening c sits on state e = pass-fair key orders past front f opening c sits on state e

pub moves_are_fair : MovesAreFair
moves_are_fair key orders past front f opening c sits other target state e fits =
    move-fair key orders past front f opening c sits other target state e fits
