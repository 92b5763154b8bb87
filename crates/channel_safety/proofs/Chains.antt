-- What a supported chain has: a mark of each participant on a state of at least its last turn, and every step from
-- there on.
use Rattle.std.proofs.Common.{◌≡◌, ℕ, zero, suc, ◌+◌, ◌-◌, ◌*◌, ◌%◌, ◌/◌, ◌<◌, ◌≤◌, Bool, true, false, not, ◌&&◌, ◌||◌, List, [], ◌∷◌, ◌⊎◌, inl, inr, length, refl, sym, ◌∙◌, ap, subst, arith}
use Rattle.std.specs.Prelude.{nat_le, eqb, ltb, Option, Some, None, Ok, is_ok}
use Rattle.std.specs.List.{slice_get}
use Rattle.std.specs.Option.{option_map}
use Rattle.std.proofs.lemmas.Bool.Decides.{nat_tests}
use Rattle.std.proofs.lemmas.Nat.{mod-mul-add, div-add-mod', mod_below}
use Rattle.channel_values.specs.Parts.{FixedParts, StateParts, IsState}
use Rattle.channel_values.specs.declared.chain.Signed.{Signed}
use Rattle.channel_values.specs.declared.chain.Mark.{Mark}
use Rattle.channel_values.specs.declared.fault.StepFault.{StepFault}
use Rattle.channel_values.specs.declared.fault.SupportFault.TheVariants as faults
use Rattle.channel_values.specs.declared.value.AssetOutcome.{AssetOutcome}
use Rattle.channel_values.specs.Words.{fault_if, ◌⊳◌}
use Rattle.channel_values.specs.Rows.{first_between, last_of, turn_fault, last_turn, is_late, marks_fault, turn_unless, marked_row}
use Rattle.channel_values.specs.Rules.{Rules, people, newest, top_turn, signs_state, KeepsFinal}
use Rattle.channel_values.specs.Support.{link_fault, row_fault, row_of, is_marked_well, verified_from, verified_marks, supports}
use Rattle.channel_values.specs.Supported.{Rises, AreSteps, IsRow, IsSupported}
use Rattle.channel_values.proofs.Rows.{support_tells}
use Rattle.channel_values.proofs.Exact.{support_is_by_marks}
use Rattle.channel_values.proofs.Turns.{last_turn_greatest}
use Rattle.call_history.specs.Marked.{Marked, chain_of, is_supported}
use Rattle.channel_safety.specs.Journals.{In}
use Rattle.channel_safety.specs.Good.{InTurn, InSteps}
use Rattle.channel_safety.specs.Strings.{with_mark, signed_marks}
use Rattle.channel_safety.specs.Steps.{StepsAfter}
use Rattle.channel_safety.proofs.Tests.{true-le, some-eq, none-eq, ok-is}
use Rattle.channel_safety.proofs.Lists.{get-within, get-some}

-- every state is final
abbrev pub AllFinal : List StateParts → Type 0
AllFinal [] = Unit {0}
AllFinal (s ∷ rest) = (s.is_final ≡ true) × AllFinal rest

-- a participant's last turn is less than n turns back
pub last_turn-low : (n t j : ℕ) → j < n → j ≤ t → t < last_turn n j t + n
last_turn-low n t j small late = go ((t - j) / n) ((t - j) % n) (div-add-mod' (t - j) n) (mod_below (t - j) n (omega arith))
  where
    go : (q rest : ℕ) → q * n + rest ≡ t - j → rest < n → t < last_turn n j t + n
    go q rest is below =
        let e : t - rest ≡ q * n + j = omega arith in
        let mine : (t - rest) % n ≡ j = ap (λ (x : ℕ). x % n) e ∙ mod-mul-add q n j small in
        let up : t - rest ≤ last_turn n j t = last_turn_greatest n j t (t - rest) (omega arith) mine in
        omega arith

-- all of these states are states
abbrev pub AreStates : List StateParts → Type 0
AreStates states = (x : StateParts) → In x states → IsState x

-- the newest state is final, with this outcome
pub record IsClosed (states : List StateParts) (outcome : List AssetOutcome) : Type 0 where
  pub top : StateParts
  pub is : newest states ≡ Some top
  pub final : top.is_final ≡ true
  pub same : top.outcome ≡ outcome
  pub valid : IsState top

pub turn_at : (s : StateParts) (rest : List StateParts) (i : ℕ) (x : StateParts) → Rises s rest → slice_get (s ∷ rest) i ≡ Some x → x.turn ≡ s.turn + i
turn_at s rest zero x h e = let a : s.turn ≡ x.turn = ap (λ (y : StateParts). y.turn) (some-eq s x e) in omega arith
turn_at s [] (suc i) x h e = absurd (none-eq x e)
turn_at s (t ∷ rest) (suc i) x h e =
    let a : x.turn ≡ t.turn + i = turn_at t rest i x h.1 e in
    let b : t.turn ≡ s.turn + 1 = h.0 in
    omega arith

pub top_at : (s : StateParts) (rest : List StateParts) → Rises s rest → (last_of s rest).turn ≡ s.turn + length rest
top_at s [] h = omega arith
top_at s (t ∷ rest) h =
    let a : (last_of t rest).turn ≡ t.turn + length rest = top_at t rest h.1 in
    let b : t.turn ≡ s.turn + 1 = h.0 in
    omega arith

-- the newest state is one of them
pub newest-in : (s : StateParts) (rest : List StateParts) → In (last_of s rest) (s ∷ rest)
newest-in s [] = inl refl
newest-in s (t ∷ rest) = inr (newest-in t rest)

-- a final state settles the outcome of each state after it
pub final_up : (r : Rules) → KeepsFinal r → (F : FixedParts) (s : StateParts) (rest : List StateParts) → AreStates (s ∷ rest) → AreSteps r F s rest → s.is_final ≡ true
    → ((last_of s rest).is_final ≡ true) × ((last_of s rest).outcome ≡ s.outcome)
final_up r keeps F s [] valid h f = (f, refl)
final_up r keeps F s (t ∷ rest) valid h f =
    let g : t.is_final ≡ true = keeps.stays F s t h.0 f in
    let up = final_up r keeps F t rest (λ x i. valid x (inr i)) h.1 g in
    (up.0, up.1 ∙ keeps.same F s t (valid s (inl refl)) (valid t (inr (inl refl))) h.0 g)

pub final_at : (r : Rules) → KeepsFinal r → (F : FixedParts) (s : StateParts) (rest : List StateParts) (i : ℕ) (x : StateParts) → AreStates (s ∷ rest) → AreSteps r F s rest → slice_get (s ∷ rest) i ≡ Some x → x.is_final ≡ true
    → IsClosed (s ∷ rest) x.outcome
final_at r keeps F s rest zero x valid h e f =
    let same : s ≡ x = some-eq s x e in
    let up = final_up r keeps F s rest valid h (subst (λ (y : StateParts). y.is_final ≡ true) (sym same) f) in
    record { top = last_of s rest; is = refl; final = up.0; same = up.1 ∙ ap (λ (y : StateParts). y.outcome) same; valid = valid (last_of s rest) (newest-in s rest) }
final_at r keeps F s [] (suc i) x valid h e f = absurd (none-eq x e)
final_at r keeps F s (t ∷ rest) (suc i) x valid h e f =
    let c = final_at r keeps F t rest i x (λ y j. valid y (inr j)) h.1 e f in
    record { top = c.top; is = c.is; final = c.final; same = c.same; valid = c.valid }

pub all_final-at : (states : List StateParts) (i : ℕ) (x : StateParts) → AllFinal states → slice_get states i ≡ Some x → x.is_final ≡ true
all_final-at [] i x f e = absurd (none-eq x e)
all_final-at (s ∷ rest) zero x f e = ap (λ (y : StateParts). y.is_final) (sym (some-eq s x e)) ∙ f.0
all_final-at (s ∷ rest) (suc i) x f e = all_final-at rest i x f.1 e

-- in a chain of final states each but the newest is followed by a step to a final state, which is no early one
pub late_at : (r : Rules) → KeepsFinal r → (F : FixedParts) (s : StateParts) (rest : List StateParts) (i : ℕ) (x : StateParts) → Rises s rest → AreSteps r F s rest → AllFinal (s ∷ rest)
    → slice_get (s ∷ rest) i ≡ Some x → (x.turn ≡ (last_of s rest).turn) ⊎ (2 * people F ≤ x.turn + 1)
late_at r keeps F s [] zero x turns steps f e = inl (ap (λ (y : StateParts). y.turn) (sym (some-eq s x e)))
late_at r keeps F s (t ∷ rest) zero x turns steps f e =
    let a : 2 * people F ≤ t.turn = keeps.late F s t steps.0 f.1.0 in
    let b : t.turn ≡ s.turn + 1 = turns.0 in
    let c : s.turn ≡ x.turn = ap (λ (y : StateParts). y.turn) (some-eq s x e) in
    inr (omega arith)
late_at r keeps F s [] (suc i) x turns steps f e = absurd (none-eq x e)
late_at r keeps F s (t ∷ rest) (suc i) x turns steps f e = late_at r keeps F t rest i x turns.1 steps.1 f.1 e

-- the states after one of them
after_at : (r : Rules) (F : FixedParts) (s : StateParts) (rest : List StateParts) (i : ℕ) (x : StateParts) → Rises s rest → AreSteps r F s rest → slice_get (s ∷ rest) i ≡ Some x → length rest < people F
    → StepsAfter r F (s ∷ rest) x
after_at r F s rest zero x turns steps e few =
    subst (λ (y : StateParts). StepsAfter r F (s ∷ rest) y) (some-eq s x e) (record { rest = rest; turns = turns; steps = steps; ends = refl; few = few })
after_at r F s [] (suc i) x turns steps e few = absurd (none-eq x e)
after_at r F s (t ∷ rest) (suc i) x turns steps e few =
    let a = after_at r F t rest i x turns.1 steps.1 e (omega arith) in
    record { rest = a.rest; turns = a.turns; steps = a.steps; ends = a.ends; few = a.few }

-- ---- the parts of support

-- a mark that stands: on a state of at least its participant's last turn, whose key verifies it
pub record Stood (r : Rules) (F : FixedParts) (t j : ℕ) (m : Mark) (o : Option StateParts) : Type 0 where
  pub state : StateParts
  pub is : o ≡ Some state
  pub from : last_turn (people F) j t ≤ state.turn
  pub well : signs_state r F j state m.signature ≡ true

pub record Parts (r : Rules) (F : FixedParts) (w : Marked) : Type 0 where
  pub some : 1 ≤ length w.states
  pub few : length w.states ≤ people F
  pub marks : length w.marks ≡ people F
  pub turns : InTurn w.states
  pub high : people F ≤ top_turn w.states + 1
  pub steps : InSteps r F w.states
  pub stand : (j : ℕ) (m : Mark) → slice_get w.marks j ≡ Some m → Stood r F (top_turn w.states) j m (slice_get w.states m.place)

verified-at : (r : Rules) (F : FixedParts) (states : List StateParts) (i : ℕ) (marks : List Mark) (k : ℕ) (m : Mark) → slice_get marks k ≡ Some m
    → slice_get (verified_from r F states i marks) k ≡ Some (is_marked_well r F (i + k) m.signature (slice_get states m.place))
verified-at r F states i [] k m e = absurd (none-eq m e)
verified-at r F states i (x ∷ marks) zero m e =
    let z : i ≡ i + 0 = omega arith in
    ap (λ (y : Mark). Some (is_marked_well r F i y.signature (slice_get states y.place))) (some-eq x m e)
    ∙ ap (λ (n : ℕ). Some (is_marked_well r F n m.signature (slice_get states m.place))) z
verified-at r F states i (x ∷ marks) (suc k) m e =
    let z : (i + 1) + k ≡ i + suc k = omega arith in
    verified-at r F states (i + 1) marks k m e ∙ ap (λ (n : ℕ). Some (is_marked_well r F n m.signature (slice_get states m.place))) z

marked-on : (r : Rules) (F : FixedParts) (j : ℕ) (sig : List ℕ) (o : Option StateParts) (s : StateParts) → o ≡ Some s → is_marked_well r F j sig o ≡ true → signs_state r F j s sig ≡ true
marked-on r F j sig o s e h = subst (λ (x : Option StateParts). is_marked_well r F j sig x ≡ true) e h

pub parts : (r : Rules) (F : FixedParts) (w : Marked) → is_supported r F w ≡ true → Parts r F w
parts r F w h = go (ok-is (supports r (chain_of F w)) h)
  where
    go : (t : ℕ) × (supports r (chain_of F w) ≡ Ok t) → Parts r F w
    go q =
        let marks = support_is_by_marks r (chain_of F w) in
        told (support_tells r (chain_of F w) (verified_marks r (chain_of F w)) q.0 (marks.1 (verified_marks r (chain_of F w)) marks.0 ∙ q.1))
      where
        told : IsSupported r (chain_of F w) (verified_marks r (chain_of F w)) q.0 → Parts r F w
        told p =
            record {
              some = some w.states p.row;
              few = p.few;
              marks = p.marks;
              turns = turns w.states p.row;
              high = subst (λ (n : ℕ). people F ≤ n + 1) (sym p.top) p.all_had_a_turn;
              steps = steps w.states p.row;
              stand = λ j m e. stand j m e;
            }
          where
            some : (states : List StateParts) → IsRow r F states → 1 ≤ length states
            some [] k = absurd k
            some (s ∷ ss) k = omega arith

            turns : (states : List StateParts) → IsRow r F states → InTurn states
            turns [] k = absurd k
            turns (s ∷ ss) k = k.0

            steps : (states : List StateParts) → IsRow r F states → InSteps r F states
            steps [] k = absurd k
            steps (s ∷ ss) k = k.1

            stand : (j : ℕ) (m : Mark) → slice_get w.marks j ≡ Some m → Stood r F (top_turn w.states) j m (slice_get w.states m.place)
            stand j m e =
                let f = p.each j m e in
                let zero-plus : 0 + j ≡ j = omega arith in
                let v : is_marked_well r F (0 + j) m.signature (slice_get w.states m.place) ≡ true =
                some-eq (is_marked_well r F (0 + j) m.signature (slice_get w.states m.place)) true (sym (verified-at r F w.states 0 w.marks j m e) ∙ f.0) in
                record {
                  state = f.1.state;
                  is = f.1.there;
                  from = subst (λ (n : ℕ). last_turn (people F) j n ≤ f.1.state.turn) (sym p.top) f.1.late;
                  well = marked-on r F j m.signature (slice_get w.states m.place) f.1.state f.1.there
                      (subst (λ (n : ℕ). is_marked_well r F n m.signature (slice_get w.states m.place) ≡ true) zero-plus v);
                }

-- ---- a chain with these parts is supported

none-then : {E : Type 0} (a b : Option E) → a ≡ None → b ≡ None → (a ⊳ b) ≡ None
none-then None b h k = k
none-then (Some x) b h k = absurd cc

no-fault : {E : Type 0} (b : Bool) (e : E) → b ≡ false → fault_if b e ≡ None
no-fault true e h = absurd cc
no-fault false e h = refl

same-not : (a b : ℕ) → a ≡ b → not (eqb a b) ≡ false
same-not a b h = grind (arith, nat_tests)

rises-none : (i : ℕ) (s : StateParts) (ts : List StateParts) → Rises s ts → first_between turn_fault i s ts ≡ None
rises-none i s [] h = refl
rises-none i s (t ∷ ts) h =
    none-then (turn_fault i s t) (first_between turn_fault (i + 1) t ts) (no-fault (not (eqb t.turn (s.turn + 1))) (faults.Turn i) (same-not t.turn (s.turn + 1) h.0)) (rises-none (i + 1) t ts h.1)

steps-none : (r : Rules) (F : FixedParts) (i : ℕ) (s : StateParts) (ts : List StateParts) → AreSteps r F s ts → first_between (link_fault r F) i s ts ≡ None
steps-none r F i s [] h = refl
steps-none r F i s (t ∷ ts) h =
    none-then (link_fault r F i s t) (first_between (link_fault r F) (i + 1) t ts) (ap (option_map (λ (fault : StepFault). faults.Step i fault)) h.0) (steps-none r F (i + 1) t ts h.1)

marks-none : (r : Rules) (F : FixedParts) (states : List StateParts) (t i : ℕ) (marks : List Mark)
    → ((k : ℕ) (m : Mark) → slice_get marks k ≡ Some m → Stood r F t (i + k) m (slice_get states m.place)) → marks_fault (people F) t states i marks (verified_from r F states i marks) ≡ None
marks-none r F states t i [] each = refl
marks-none r F states t i (x ∷ marks) each =
    none-then (fault_if (not (is_marked_well r F i x.signature (slice_get states x.place) && is_late (people F) t i (slice_get states x.place))) (faults.Signature i))
    (marks_fault (people F) t states (i + 1) marks (verified_from r F states (i + 1) marks))
    (no-fault (not (is_marked_well r F i x.signature (slice_get states x.place) && is_late (people F) t i (slice_get states x.place))) (faults.Signature i) (first (slice_get states x.place) (each 0 x refl)))
    (marks-none r F states t (i + 1) marks (λ k m e. (let z : i + suc k ≡ (i + 1) + k = omega arith in subst (λ (n : ℕ). Stood r F t n m (slice_get states m.place)) z (each (suc k) m e))))
  where
    both : (a b : Bool) → a ≡ true → b ≡ true → not (a && b) ≡ false
    both true true p q = refl
    both true false p q = absurd cc
    both false b p q = absurd cc

    first : (o : Option StateParts) → Stood r F t (i + 0) x o → not (is_marked_well r F i x.signature o && is_late (people F) t i o) ≡ false
    first o st =
        let z : i + 0 ≡ i = omega arith in
        let from : last_turn (people F) i t ≤ st.state.turn = subst (λ (n : ℕ). last_turn (people F) n t ≤ st.state.turn) z st.from in
        subst (λ (y : Option StateParts). not (is_marked_well r F i x.signature y && is_late (people F) t i y) ≡ false) (sym st.is)
        (both (signs_state r F i st.state x.signature) (nat_le (last_turn (people F) i t) st.state.turn)
        (subst (λ (n : ℕ). signs_state r F n st.state x.signature ≡ true) z st.well)
        (true-le (last_turn (people F) i t) st.state.turn from))

pub whole : (r : Rules) (F : FixedParts) (w : Marked) → Parts r F w → is_supported r F w ≡ true
unfolding supports
whole r F w p = go w.states w.marks p
  where
    go : (states : List StateParts) (marks : List Mark) → Parts r F (record { states = states; marks = marks }) → is_supported r F (record { states = states; marks = marks }) ≡ true
    go [] marks q = absurd (let some : 1 ≤ 0 = q.some in omega arith)
    go (a ∷ rest) marks q = ap is_ok (ap (marked_row F (a ∷ rest) marks verified) row ∙ ap (turn_unless (last_of a rest).turn) faultless)
      where
        verified : List Bool
        verified = verified_from r F (a ∷ rest) 0 marks

        counts : (ltb (people F) (length (a ∷ rest)) || not (eqb (length marks) (people F))) ≡ false
        counts = neither (people F) (length (a ∷ rest)) (length marks) q.few q.marks
          where
            neither : (n l m : ℕ) → l ≤ n → m ≡ n → (ltb n l || not (eqb m n)) ≡ false
            neither n l m h k = grind (arith, nat_tests)

        enough : ltb (last_of a rest).turn (people F - 1) ≡ false
        enough = above (people F) (last_of a rest).turn q.high
          where
            above : (n t : ℕ) → n ≤ t + 1 → ltb t (n - 1) ≡ false
            above n t h = let k : n - 1 ≤ t = omega arith in not-below t (n - 1) k
              where
                not-below : (x y : ℕ) → y ≤ x → ltb x y ≡ false
                not-below x y h = grind (arith, nat_tests)

        faultless-row : row_fault r F a rest (length marks) ≡ None
        faultless-row =
            none-then (fault_if (ltb (people F) (length (a ∷ rest)) || not (eqb (length marks) (people F))) faults.Length) (first_between turn_fault 1 a rest ⊳ fault_if (ltb (last_of a rest).turn (people F - 1)) faults.Length ⊳ first_between (link_fault r F) 1 a rest)
            (no-fault (ltb (people F) (length (a ∷ rest)) || not (eqb (length marks) (people F))) faults.Length counts)
            (none-then (first_between turn_fault 1 a rest) (fault_if (ltb (last_of a rest).turn (people F - 1)) faults.Length ⊳ first_between (link_fault r F) 1 a rest) (rises-none 1 a rest q.turns)
            (none-then (fault_if (ltb (last_of a rest).turn (people F - 1)) faults.Length) (first_between (link_fault r F) 1 a rest) (no-fault (ltb (last_of a rest).turn (people F - 1)) faults.Length enough) (steps-none r F 1 a rest q.steps)))

        row : row_of r F (a ∷ rest) (length marks) ≡ Ok (last_of a rest).turn
        row = ap (turn_unless (last_of a rest).turn) faultless-row

        faultless : marks_fault (people F) (last_of a rest).turn (a ∷ rest) 0 marks (verified_from r F (a ∷ rest) 0 marks) ≡ None
        faultless = marks-none r F (a ∷ rest) (last_of a rest).turn 0 marks (λ k m e. (let z : k ≡ 0 + k = omega arith in subst (λ (n : ℕ). Stood r F (last_of a rest).turn n m (slice_get (a ∷ rest) m.place)) z (q.stand k m e)))

-- ---- the signatures of a chain

-- a state with a mark's signature
pub to_mark : (states : List StateParts) (marks : List Mark) (i : ℕ) (m : Mark) (s : StateParts) → slice_get marks i ≡ Some m → slice_get states m.place ≡ Some s
    → In (record { state = s; signature = m.signature }) (signed_marks states marks)
to_mark states [] i m s e on = absurd (none-eq m e)
to_mark states (x ∷ marks) zero m s e on =
    let same : x ≡ m = some-eq x m e in
    subst (λ (y : Mark). In (record { state = s; signature = m.signature }) (with_mark y (slice_get states y.place) (signed_marks states marks))) (sym same)
    (subst (λ (o : Option StateParts). In (record { state = s; signature = m.signature }) (with_mark m o (signed_marks states marks))) (sym on) (inl refl))
to_mark states (x ∷ marks) (suc i) m s e on = after (slice_get states x.place) (to_mark states marks i m s e on)
  where
    after : (o : Option StateParts) → In (record { state = s; signature = m.signature }) (signed_marks states marks) → In (record { state = s; signature = m.signature }) (with_mark x o (signed_marks states marks))
    after None h = h
    after (Some y) h = inr h

pub record FromMark (states : List StateParts) (marks : List Mark) (x : Signed) : Type 0 where
  pub number : ℕ
  pub mark : Mark
  pub at : slice_get marks number ≡ Some mark
  pub on : slice_get states mark.place ≡ Some x.state
  pub same : x.signature ≡ mark.signature

pub from_mark : (states : List StateParts) (marks : List Mark) (x : Signed) → In x (signed_marks states marks) → FromMark states marks x
from_mark states [] x i = absurd i
from_mark states (m ∷ marks) x i = go (slice_get states m.place) refl i (λ h. from_mark states marks x h)
  where
    more : FromMark states marks x → FromMark states (m ∷ marks) x
    more f = record { number = suc f.number; mark = f.mark; at = f.at; on = f.on; same = f.same }

    go : (o : Option StateParts) → slice_get states m.place ≡ o → In x (with_mark m o (signed_marks states marks)) → (In x (signed_marks states marks) → FromMark states marks x) → FromMark states (m ∷ marks) x
    go None e h rec = more (rec h)
    go (Some s) e (inl h) rec = record { number = 0; mark = m; at = refl; on = e ∙ ap (λ (y : Signed). Some y.state) (sym h); same = ap (λ (y : Signed). y.signature) h }
    go (Some s) e (inr h) rec = more (rec h)

-- ---- the state of the chain on which a participant's mark stands

pub record OwnState (r : Rules) (F : FixedParts) (me : ℕ) (w : Marked) : Type 0 where
  pub signed : Signed
  pub there : In signed (signed_marks w.states w.marks)
  pub well : signs_state r F me signed.state signed.signature ≡ true
  pub latest : (turn : ℕ) → turn % people F ≡ me → turn ≤ top_turn w.states → turn ≤ signed.state.turn
  pub high : signed.state.turn ≤ top_turn w.states
  pub carries : signed.state.is_final ≡ true → IsClosed w.states signed.state.outcome
  pub after : StepsAfter r F w.states signed.state
  pub final : AllFinal w.states → signed.state.is_final ≡ true
  pub late : AllFinal w.states → people F ≤ signed.state.turn + 1

pub own_state : (r : Rules) → KeepsFinal r → (F : FixedParts) (me : ℕ) (w : Marked) → me < people F → AreStates w.states → is_supported r F w ≡ true → OwnState r F me w
own_state r keeps F me w small valid h = at_mark (parts r F w h)
  where
    on_state : (states : List StateParts) → AreStates states → (m : Mark) → slice_get w.marks me ≡ Some m → Stood r F (top_turn states) me m (slice_get states m.place)
        → InTurn states → InSteps r F states → people F ≤ top_turn states + 1 → length states ≤ people F → OwnState r F me (record { states = states; marks = w.marks })
    on_state [] valid m e s turns steps up few = absurd (none-eq s.state s.is)
    on_state (a ∷ rest) valid m e s turns steps up few =
        let at : s.state.turn ≡ a.turn + m.place = turn_at a rest m.place s.state turns s.is in
        let top : (last_of a rest).turn ≡ a.turn + length rest = top_at a rest turns in
        let within : m.place < length (a ∷ rest) = get-within (a ∷ rest) m.place s.state s.is in
        let from : last_turn (people F) me (last_of a rest).turn ≤ s.state.turn = s.from in
        record {
          signed = record { state = s.state; signature = m.signature };
          there = to_mark (a ∷ rest) w.marks me m s.state e s.is;
          well = s.well;
          latest = λ turn mover high. (let g : turn ≤ last_turn (people F) me (last_of a rest).turn = last_turn_greatest (people F) me (last_of a rest).turn turn high mover in omega (arith, from));
          high = omega (arith, at, top, within);
          carries = λ f. final_at r keeps F a rest m.place s.state valid steps s.is f;
          after = after_at r F a rest m.place s.state turns steps s.is (omega (arith, few));
          final = λ f. all_final-at (a ∷ rest) m.place s.state f s.is;
          late = λ f. not_early (late_at r keeps F a rest m.place s.state turns steps f s.is);
        }
      where
        not_early : (s.state.turn ≡ (last_of a rest).turn) ⊎ (2 * people F ≤ s.state.turn + 1) → people F ≤ s.state.turn + 1
        not_early (inl e) = omega (arith, up)
        not_early (inr l) = omega arith

    at_mark : Parts r F w → OwnState r F me w
    at_mark p = go (get-some w.marks me (let n : length w.marks ≡ people F = p.marks in omega arith))
      where
        go : (m : Mark) × (slice_get w.marks me ≡ Some m) → OwnState r F me w
        go m = on_state w.states valid m.0 m.1 (p.stand me m.0 m.1) p.turns p.steps p.high p.few
