-- A state that passes the tests makes a supported chain another one, and the first round longer, until it is a
-- supported chain.
use Rattle.std.proofs.Common.{◌≡◌, ℕ, ◌+◌, ◌-◌, ◌%◌, ◌<◌, ◌≤◌, ◌==◌, true, ◌&&◌, List, [], ◌∷◌, ◌++◌, ◌⊎◌, inl, inr, length, map, refl, sym, ◌∙◌, ap, subst, arith, length-append}
use Rattle.std.specs.Prelude.{nat_lt, slice_set, Option, Some, None}
use Rattle.std.specs.List.{slice_get}
use Rattle.std.proofs.Math.Nat.{mod-eq_of_lt}
use Rattle.std.proofs.lemmas.Bool.Decides.{nat_tests}
use Rattle.channel_values.specs.Parts.{FixedParts, StateParts}
use Rattle.channel_values.specs.declared.chain.Signed.{Signed}
use Rattle.channel_values.specs.declared.chain.Mark.{Mark}
use Rattle.channel_values.specs.Rows.{last_of, last_turn}
use Rattle.channel_values.specs.Rules.{Rules, people, newest, turn_of, top_turn, signs_state, is_signed_well}
use Rattle.channel_values.proofs.Turns.{last_turn_at_most, last_turn_mine}
use Rattle.call_history.specs.Marked.{Marked, nothing, is_supported, longer, lowest, lowered, cut, answered, next_after, is_step, extends}
use Rattle.channel_safety.specs.Good.{InTurn, InSteps, IsYoung, IsGood}
use Rattle.channel_safety.specs.ChainLaws.{Grown}
use Rattle.channel_safety.proofs.Tests.{cond-true, and-left, and-right, some-eq, none-eq, is-none, eqb-true}
use Rattle.channel_safety.proofs.Lists.{get-within, get-some, get-append, get-end, get-push}
use Rattle.channel_safety.proofs.Chains.{turn_at, top_at, Stood, parts, whole}
use Rattle.channel_safety.proofs.Answering.{lowest-le, lowest-at, turns-append, steps-append, last_of-end, answered-supported}

-- with a supported chain, a state that extends it makes another one
pub record Extension (r : Rules) (F : FixedParts) (s : Signed) (w : Marked) : Type 0 where
  pub before : StateParts
  pub was : newest w.states ≡ Some before
  pub turn : s.state.turn ≡ before.turn + 1
  pub step : r.step F before s.state ≡ None
  pub chain : is_supported r F (answered F s w) ≡ true
  pub ends : newest (answered F s w).states ≡ Some s.state

pub extension : (r : Rules) (F : FixedParts) (s : Signed) (w : Marked) → is_supported r F w ≡ true → extends r F s w ≡ true → Extension r F s w
extension r F s w chain ext =
    go (newest w.states) refl (eqb-true s.state.turn (next_after (newest w.states)) (and-left (s.state.turn == next_after (newest w.states)) (is_signed_well r F s && is_step r F s.state (newest w.states)) ext))
    (and-right (is_signed_well r F s) (is_step r F s.state (newest w.states)) tests)
  where
    tests : (is_signed_well r F s && is_step r F s.state (newest w.states)) ≡ true
    tests = and-right (s.state.turn == next_after (newest w.states)) (is_signed_well r F s && is_step r F s.state (newest w.states)) ext

    go : (o : Option StateParts) → newest w.states ≡ o → s.state.turn ≡ next_after o → is_step r F s.state o ≡ true → Extension r F s w
    go None e turn step = absurd (some-first w.states (parts r F w chain).some e)
      where
        some-first : (xs : List StateParts) → 1 ≤ length xs → newest xs ≡ None → ⊥
        some-first [] h n = absurd (omega arith)
        some-first (x ∷ xs) h n = none-eq (last_of x xs) (sym n)
    go (Some t) e turn step =
        let follows : r.step F t s.state ≡ None = is-none (r.step F t s.state) step in
        let a = answered-supported r F s t w chain e turn follows (and-left (is_signed_well r F s) (is_step r F s.state (newest w.states)) tests) in
        record { before = t; was = e; turn = turn; step = follows; chain = a.chain; ends = a.ends }

-- a chain with one more state, all places as they were
abbrev pub grown : Signed → Marked → Marked
grown s w = record { states = w.states ++ s.state ∷ []; marks = w.marks ++ record { place = length w.states; signature = s.signature } ∷ [] }

lowered-zero : (marks : List Mark) → map (lowered 0) marks ≡ marks
lowered-zero [] = refl
lowered-zero (m ∷ marks) =
    let e : m.place - 0 ≡ m.place = omega arith in
    ap (λ (x : ℕ). record { place = x; signature = m.signature } ∷ map (lowered 0) marks) e ∙ ap (λ (ms : List Mark). m ∷ ms) (lowered-zero marks)

answered-young : (r : Rules) (F : FixedParts) (s : Signed) (w : Marked) → IsYoung r F w → answered F s w ≡ grown s w
answered-young r F s w y = ap (λ (x : ℕ). cut x (longer F s w)) none ∙ (ap (λ (ms : List Mark). record { states = w.states ++ s.state ∷ []; marks = ms }) (lowered-zero (longer F s w).marks) ∙ is-longer)
  where
    new : Mark
    new = record { place = length w.states; signature = s.signature }

    less : (a b : ℕ) → a < b → nat_lt a b ≡ true
    less a b h = grind (arith, nat_tests)

    below : length w.marks < people F
    below = let a : length w.marks ≡ length w.states = y.marks in let b : length w.states < people F = y.few in omega arith

    is-push : (longer F s w).marks ≡ w.marks ++ record { place = length w.states; signature = s.signature } ∷ []
    is-push =
        cond-true (nat_lt (length w.marks) (people F)) (w.marks ++ record { place = length w.states; signature = s.signature } ∷ [])
        (slice_set w.marks (s.state.turn % people F) (record { place = length w.states; signature = s.signature })) (less (length w.marks) (people F) below)

    is-longer : longer F s w ≡ grown s w
    is-longer = ap (λ (ms : List Mark). record { states = w.states ++ s.state ∷ []; marks = ms }) is-push

    zero-le : (x : ℕ) → x ≤ 0 → x ≡ 0
    zero-le x h = omega arith

    none : lowest (length w.states) (longer F s w).marks ≡ 0
    none = zero-le (lowest (length w.states) (longer F s w).marks) (subst (λ (ms : List Mark). lowest (length w.states) ms ≤ 0) (sym is-push) (at_first w.marks y.marks y.at))
      where
        at_first : (marks : List Mark) → length marks ≡ length w.states → ((i : ℕ) (m : Mark) → slice_get marks i ≡ Some m → m.place ≡ i)
            → lowest (length w.states) (marks ++ record { place = length w.states; signature = s.signature } ∷ []) ≤ 0
        at_first [] len at = let a = lowest-le (length w.states) (record { place = length w.states; signature = s.signature } ∷ []) in omega arith
        at_first (m ∷ marks) len at =
            let a = lowest-at (length w.states) ((m ∷ marks) ++ record { place = length w.states; signature = s.signature } ∷ []) 0 m refl in
            let b : m.place ≡ 0 = at 0 m refl in
            omega arith

-- what the tests of a state say over the first round
pub record Next (r : Rules) (F : FixedParts) (s : Signed) (w : Marked) : Type 0 where
  pub turn : s.state.turn ≡ length w.states
  pub well : signs_state r F (length w.states) s.state s.signature ≡ true
  pub turns : InTurn (w.states ++ s.state ∷ [])
  pub steps : InSteps r F (w.states ++ s.state ∷ [])
  pub ends : newest (w.states ++ s.state ∷ []) ≡ Some s.state

next-of : (r : Rules) (F : FixedParts) (s : Signed) (w : Marked) → IsYoung r F w → extends r F s w ≡ true → Next r F s w
next-of r F s w y ext =
    go w.states w.marks y (eqb-true s.state.turn (next_after (newest w.states)) (and-left (s.state.turn == next_after (newest w.states)) (is_signed_well r F s && is_step r F s.state (newest w.states)) ext))
    (and-left (is_signed_well r F s) (is_step r F s.state (newest w.states)) tests) (and-right (is_signed_well r F s) (is_step r F s.state (newest w.states)) tests)
  where
    tests : (is_signed_well r F s && is_step r F s.state (newest w.states)) ≡ true
    tests = and-right (s.state.turn == next_after (newest w.states)) (is_signed_well r F s && is_step r F s.state (newest w.states)) ext

    own : (k : ℕ) → s.state.turn ≡ k → k < people F → is_signed_well r F s ≡ true → signs_state r F k s.state s.signature ≡ true
    own k e small h =
        let same : s.state.turn % people F ≡ k = ap (λ (x : ℕ). x % people F) e ∙ mod-eq_of_lt small in
        subst (λ (x : ℕ). signs_state r F x s.state s.signature ≡ true) same h

    go : (states : List StateParts) (marks : List Mark) → IsYoung r F (record { states = states; marks = marks }) → s.state.turn ≡ next_after (newest states) → is_signed_well r F s ≡ true → is_step r F s.state (newest states) ≡ true
        → Next r F s (record { states = states; marks = marks })
    go [] marks y turn well step = record { turn = turn; well = own 0 turn y.few well; turns = tt; steps = tt; ends = refl }
    go (a ∷ rest) marks y turn well step =
        let top : (last_of a rest).turn ≡ a.turn + length rest = top_at a rest y.turns in
        let begin : a.turn ≡ 0 = y.first a refl in
        let at : s.state.turn ≡ length (a ∷ rest) = omega arith in
        record {
          turn = at;
          well = own (length (a ∷ rest)) at y.few well;
          turns = turns-append a rest s.state y.turns turn;
          steps = steps-append r F a rest s.state y.steps (is-none (r.step F (last_of a rest) s.state) step);
          ends = ap (λ (z : StateParts). Some z) (last_of-end a rest s.state);
        }

module _ (r : Rules) (F : FixedParts) (s : Signed) (w : Marked) (y : IsYoung r F w) (n : Next r F s w) where
  -- where each mark of the longer chain stands
  pub record StoodAt (i : ℕ) (m : Mark) : Type 0 where
    pub state : StateParts
    pub place : m.place ≡ i
    pub on : slice_get (w.states ++ s.state ∷ []) i ≡ Some state
    pub turn : state.turn ≡ i
    pub verified : signs_state r F i state m.signature ≡ true

  stood-at : (i : ℕ) (m : Mark) → slice_get (grown s w).marks i ≡ Some m → StoodAt i m
  stood-at i m e = cases (get-push w.marks i (record { place = length w.states; signature = s.signature }) m e)
    where
      cases : ((i ≡ length w.marks) × (m ≡ record { place = length w.states; signature = s.signature })) ⊎ (slice_get w.marks i ≡ Some m) → StoodAt i m
      cases (inl q) =
          let k : i ≡ length w.states = q.0 ∙ y.marks in
          record {
            state = s.state;
            place = ap (λ (x : Mark). x.place) q.1 ∙ sym k;
            on = ap (slice_get (w.states ++ s.state ∷ [])) k ∙ get-end w.states s.state;
            turn = n.turn ∙ sym k;
            verified = subst (λ (x : ℕ). signs_state r F x s.state m.signature ≡ true) (sym k)
                (subst (λ (x : Mark). signs_state r F (length w.states) s.state x.signature ≡ true) (sym q.1) n.well);
          }
      cases (inr q) = old (get-some w.states i (let a : i < length w.marks = get-within w.marks i m q in let b : length w.marks ≡ length w.states = y.marks in omega arith))
        where
          turn-of : (states : List StateParts) (x : StateParts) → InTurn states → ((x : StateParts) → slice_get states 0 ≡ Some x → x.turn ≡ 0) → slice_get states i ≡ Some x → x.turn ≡ i
          turn-of [] x turns first e = absurd (none-eq x e)
          turn-of (a ∷ rest) x turns first e =
              let at : x.turn ≡ a.turn + i = turn_at a rest i x turns e in
              let begin : a.turn ≡ 0 = first a refl in
              omega arith

          old : (x : StateParts) × (slice_get w.states i ≡ Some x) → StoodAt i m
          old x =
              record {
                state = x.0;
                place = y.at i m q;
                on = get-append w.states (s.state ∷ []) i (get-within w.states i x.0 x.1) ∙ x.1;
                turn = turn-of w.states x.0 y.turns y.first x.1;
                verified = y.well i m x.0 q x.1;
              }

  len-states : length (grown s w).states ≡ length w.states + 1
  len-states = length-append w.states (s.state ∷ [])

  len-marks : length (grown s w).marks ≡ length w.states + 1
  len-marks = length-append w.marks (record { place = length w.states; signature = s.signature } ∷ []) ∙ ap (λ (x : ℕ). x + 1) y.marks

  still-young : length w.states + 1 < people F → IsYoung r F (grown s w)
  still-young few =
      record {
        few = subst (λ (x : ℕ). x < people F) (sym len-states) few;
        marks = len-marks ∙ sym len-states;
        first = begin w.states y.first n.turn;
        turns = n.turns;
        steps = n.steps;
        at = λ i m e. (stood-at i m e).place;
        well = λ i m x e on. well-on i m x (stood-at i m e) on;
      }
    where
      begin : (states : List StateParts) → ((x : StateParts) → slice_get states 0 ≡ Some x → x.turn ≡ 0) → s.state.turn ≡ length states → (x : StateParts) → slice_get (states ++ s.state ∷ []) 0 ≡ Some x → x.turn ≡ 0
      begin [] first turn x e = ap (λ (z : StateParts). z.turn) (sym (some-eq s.state x e)) ∙ turn
      begin (a ∷ rest) first turn x e = first x e

      well-on : (i : ℕ) (m : Mark) (x : StateParts) → StoodAt i m → slice_get (grown s w).states i ≡ Some x → signs_state r F i x m.signature ≡ true
      well-on i m x st on =
          subst (λ (z : StateParts). signs_state r F i z m.signature ≡ true) (some-eq st.state x (sym st.on ∙ on)) st.verified

  round-supported : people F ≡ length w.states + 1 → is_supported r F (grown s w) ≡ true
  round-supported full =
      whole r F (grown s w) (record {
        some = (let l = len-states in omega arith);
        few = (let l = len-states in omega (arith, full));
        marks = len-marks ∙ sym full;
        turns = n.turns;
        high = (let t = n.turn in omega (arith, full, top));
        steps = n.steps;
        stand = λ i m e. subst (λ (x : ℕ). Stood r F x i m (slice_get (grown s w).states m.place)) (sym top) (stand i m e);
      })
    where
      top : top_turn (grown s w).states ≡ s.state.turn
      top = ap turn_of n.ends

      stand : (i : ℕ) (m : Mark) → slice_get (grown s w).marks i ≡ Some m → Stood r F s.state.turn i m (slice_get (grown s w).states m.place)
      stand i m e = by (stood-at i m e)
        where
          by : StoodAt i m → Stood r F s.state.turn i m (slice_get (grown s w).states m.place)
          by st =
              let within : i < length (grown s w).marks = get-within (grown s w).marks i m e in
              let l : length (grown s w).marks ≡ length w.states + 1 = len-marks in
              let t : s.state.turn ≡ length w.states = n.turn in
              let most : last_turn (people F) i s.state.turn ≤ s.state.turn = last_turn_at_most (people F) i s.state.turn in
              let mine : last_turn (people F) i s.state.turn % people F ≡ i = last_turn_mine (people F) i s.state.turn (omega (arith, full)) (omega arith) in
              let gone : last_turn (people F) i s.state.turn % people F ≡ last_turn (people F) i s.state.turn = mod-eq_of_lt (omega (arith, full)) in
              let a : st.state.turn ≡ i = st.turn in
              record { state = st.state; is = ap (slice_get (grown s w).states) st.place ∙ st.on; from = omega arith; well = st.verified }

-- a state that passes the tests makes what is held good again, and a supported chain from turn n-1 on
pub noted-good : (r : Rules) (F : FixedParts) (s : Signed) (w : Marked) → IsGood r F w → extends r F s w ≡ true → Grown r F s w
noted-good r F s w (inr chain) ext = let x = extension r F s w chain ext in record { good = inr x.chain; ends = x.ends; chain = λ h. x.chain }
noted-good r F s w (inl y) ext = by (next-of r F s w y ext)
  where
    by : Next r F s w → Grown r F s w
    by n = subst-noted (sym (answered-young r F s w y)) (sizes (length w.states + 1) (people F) (let f : length w.states < people F = y.few in omega arith))
      where
        sizes : (a b : ℕ) → a ≤ b → (a < b) ⊎ (b ≡ a)
        sizes a b h = grind arith

        ends : newest (grown s w).states ≡ Some s.state
        ends = n.ends

        subst-noted : grown s w ≡ answered F s w → (length w.states + 1 < people F) ⊎ (people F ≡ length w.states + 1) → Grown r F s w
        subst-noted e (inl few) =
            record {
              good = subst (IsGood r F) e (inl (still-young r F s w y n few));
              ends = subst (λ (x : Marked). newest x.states ≡ Some s.state) e ends;
              chain = λ h. (let t : s.state.turn ≡ length w.states = n.turn in absurd (omega arith));
            }
        subst-noted e (inr full) =
            record {
              good = subst (IsGood r F) e (inr (round-supported r F s w y n full));
              ends = subst (λ (x : Marked). newest x.states ≡ Some s.state) e ends;
              chain = λ h. subst (λ (x : Marked). is_supported r F x ≡ true) e (round-supported r F s w y n full);
            }

pub nothing-young : (r : Rules) (F : FixedParts) → 1 ≤ people F → IsYoung r F nothing
nothing-young r F one = record { few = omega arith; marks = refl; first = λ x e. absurd (none-eq x e); turns = tt; steps = tt; at = λ i m e. absurd (none-eq m e); well = λ i m x e on. absurd (none-eq m e) }
