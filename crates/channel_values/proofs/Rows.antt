-- What a supported chain says of its states and marks.
use Rattle.std.proofs.Common.{◌≡◌, ◌≢◌, ℕ, zero, suc, ◌+◌, ◌-◌, ◌≤◌, Bool, true, false, not, ◌&&◌, ◌||◌, eqb, ltb, leb, List, [], ◌∷◌, length, drop, Result, Ok, Err, refl, sym, ap, subst, ◌∙◌, arith}
use Rattle.std.specs.Prelude.{Option, Some, None}
use Rattle.std.specs.List.{AllByRecursion, slice_get}
use Rattle.std.specs.Option.{option_map}
use Rattle.std.proofs.lemmas.Bool.Decides.{Decides-eqb, nat_tests}
use Rattle.channel_values.specs.Parts.{FixedParts, StateParts}
use Rattle.channel_values.specs.declared.fault.StepFault.{StepFault}
use Rattle.channel_values.specs.declared.chain.Mark.{Mark}
use Rattle.channel_values.specs.declared.fault.SupportFault.{SupportFault}
use Rattle.channel_values.specs.declared.fault.SupportFault.TheVariants as faults
use Rattle.channel_values.specs.Words.{fault_if, ◌⊳◌}
use Rattle.channel_values.specs.Rows.{mover, first_between, last_of, turn_fault, last_turn, is_late, marks_fault, turn_unless, marked_row}
use Rattle.channel_values.specs.Rules.{Rules}
use Rattle.channel_values.specs.Support.{link_fault, row_fault, row_of}
use Rattle.channel_values.specs.Supported.{Rises, AreSteps, FromMark, IsSupported, SupportTells}
use Rattle.channel_values.proofs.Lines.{both_none, unbroken, not_not, and_true, or_false}
use Rattle.channel_values.proofs.Turns.{last_turn_greatest}

rises : (i : ℕ) (s : StateParts) (ts : List StateParts) → first_between turn_fault i s ts ≡ None → Rises s ts
rises i s [] h = tt
rises i s (t ∷ ts) h =
    let p = both_none (turn_fault i s t) (first_between turn_fault (i + 1) t ts) h in
    ((Decides-eqb t.turn (s.turn + 1)).0 (not_not _ (unbroken (not (eqb t.turn (s.turn + 1))) (faults.Turn i) p.0)), rises (i + 1) t ts p.1)

mapped_none : (i : ℕ) (o : Option StepFault) → option_map (λ fault. faults.Step i fault) o ≡ None → o ≡ None
mapped_none i None h = refl
mapped_none i (Some x) h = absurd cc

follows : (r : Rules) (f : FixedParts) (i : ℕ) (s : StateParts) (ts : List StateParts) → first_between (link_fault r f) i s ts ≡ None → AreSteps r f s ts
follows r f i s [] h = tt
follows r f i s (t ∷ ts) h =
    let p = both_none (link_fault r f i s t) (first_between (link_fault r f) (i + 1) t ts) h in
    (mapped_none i (r.step f s t) p.0, follows r f (i + 1) t ts p.1)

pub turns_up : (s : StateParts) (ts : List StateParts) → Rises s ts → s.turn ≤ (last_of s ts).turn
turns_up s [] h = omega arith
turns_up s (t ∷ ts) h = let k = turns_up t ts h.1 in let e = h.0 in omega arith

-- after a state that isn't before j's last turn, others move
pub others_move : (n j last : ℕ) (s : StateParts) (ts : List StateParts) → Rises s ts → (last_of s ts).turn ≤ last → last_turn n j last ≤ s.turn → AllByRecursion (λ t. mover n t.turn ≢ j) ts
others_move n j last s [] h le late = tt
others_move n j last s (t ∷ ts) h le late =
    let up = turns_up t ts h.1 in
    let e = h.0 in
    ((λ mine. absurd (let k = last_turn_greatest n j last t.turn (omega arith) mine in omega arith)), others_move n j last t ts h.1 le (omega arith))

-- the states after the one at a place
record Tail (r : Rules) (f : FixedParts) (s x : StateParts) (xs ts : List StateParts) : Type 0 where
  steps : AreSteps r f s ts
  rise : Rises s ts
  few : length ts ≤ length xs
  last : last_of s ts ≡ last_of x xs

pub same_some : {A : Type 0} (x y : A) → Some x ≡ Some y → x ≡ y
same_some x y e = cc

tail_at : (r : Rules) (f : FixedParts) (place : ℕ) (x : StateParts) (xs : List StateParts) (s : StateParts) → slice_get (x ∷ xs) place ≡ Some s → AreSteps r f x xs → Rises x xs → Tail r f s x xs (drop (suc place) (x ∷ xs))
tail_at r f zero x xs s h steps rise =
    subst (λ (q : StateParts). Tail r f q x xs xs) (same_some x s h) (record { steps = steps; rise = rise; few = omega arith; last = refl })
tail_at r f (suc place) x [] s h steps rise = absurd cc
tail_at r f (suc place) x (y ∷ ys) s h steps rise =
    let t = tail_at r f place y ys s h steps.1 rise.1 in
    record { steps = t.steps; rise = t.rise; few = (let k = t.few in omega arith); last = t.last }

turn_unless_ok : (t u : ℕ) (o : Option SupportFault) → turn_unless t o ≡ Ok u → (o ≡ None) × (t ≡ u)
turn_unless_ok t u None h = (refl, cc)
turn_unless_ok t u (Some e) h = absurd cc

marked_ok : (f : FixedParts) (states : List StateParts) (marks : List Mark) (verified : List Bool) (u : ℕ) (r : Result ℕ SupportFault) → marked_row f states marks verified r ≡ Ok u → (r ≡ Ok u) × (marks_fault (length f.keys) u states 0 marks verified ≡ None)
marked_ok f states marks verified u (Err e) h = absurd cc
marked_ok f states marks verified u (Ok t) h =
    let p = turn_unless_ok t u (marks_fault (length f.keys) t states 0 marks verified) h in
    (ap (λ (q : ℕ). Ok q) p.1, subst (λ (q : ℕ). marks_fault (length f.keys) q states 0 marks verified ≡ None) p.1 p.0)

-- a mark that does: it verifies, and its state is late enough
abbrev Does : ℕ → ℕ → List StateParts → ℕ → ℕ → Option Bool → Mark → Type 0
Does n turn states i k verified mark = (verified ≡ Some true) × (is_late n turn (i + k) (slice_get states mark.place) ≡ true)

mark_does : (n turn : ℕ) (states : List StateParts) (i : ℕ) (marks : List Mark) (verified : List Bool) → marks_fault n turn states i marks verified ≡ None → (k : ℕ) (mark : Mark) → slice_get marks k ≡ Some mark → Does n turn states i k (slice_get verified k) mark
mark_does n turn states i [] verified h k mark e = absurd cc
mark_does n turn states i (m ∷ marks) [] h k mark e = absurd cc
mark_does n turn states i (m ∷ marks) (v ∷ verified) h zero mark e =
    let p = both_none (fault_if (not (v && is_late n turn i (slice_get states m.place))) (faults.Signature i)) (marks_fault n turn states (i + 1) marks verified) h in
    let a = and_true v (is_late n turn i (slice_get states m.place)) (not_not _ (unbroken (not (v && is_late n turn i (slice_get states m.place))) (faults.Signature i) p.0)) in
    let same : m ≡ mark = same_some m mark e in
    let z : i ≡ i + 0 = omega arith in
    (ap (λ (b : Bool). Some b) a.0, subst (λ (q : ℕ). is_late n turn q (slice_get states mark.place) ≡ true) z (subst (λ (q : Mark). is_late n turn i (slice_get states q.place) ≡ true) same a.1))
mark_does n turn states i (m ∷ marks) (v ∷ verified) h (suc k) mark e =
    let p = both_none (fault_if (not (v && is_late n turn i (slice_get states m.place))) (faults.Signature i)) (marks_fault n turn states (i + 1) marks verified) h in
    let z : (i + 1) + k ≡ i + suc k = omega arith in
    let d = mark_does n turn states (i + 1) marks verified p.1 k mark e in
    (d.0, subst (λ (q : ℕ). is_late n turn q (slice_get states mark.place) ≡ true) z d.1)

-- a place that is late enough has a state
late_state : (n turn j : ℕ) (o : Option StateParts) → is_late n turn j o ≡ true → (s : StateParts) × (o ≡ Some s) × (last_turn n j turn ≤ s.turn)
late_state n turn j None h = absurd cc
late_state n turn j (Some s) h = (s, refl, below (last_turn n j turn) s.turn h)
  where
    below : (a b : ℕ) → leb a b ≡ true → a ≤ b
    below a b h = grind (arith, nat_tests)

-- the conditions on the states of a row
record Row (r : Rules) (f : FixedParts) (x : StateParts) (xs : List StateParts) (marks turn : ℕ) : Type 0 where
  steps : AreSteps r f x xs
  rise : Rises x xs
  few : length (x ∷ xs) ≤ length f.keys
  marked : marks ≡ length f.keys
  top : (last_of x xs).turn ≡ turn
  enough : length f.keys ≤ turn + 1

row_means : (r : Rules) (f : FixedParts) (x : StateParts) (xs : List StateParts) (marks turn : ℕ) → row_of r f (x ∷ xs) marks ≡ Ok turn → Row r f x xs marks turn
row_means r f x xs marks turn h =
    let q = turn_unless_ok (last_of x xs).turn turn (row_fault r f x xs marks) h in
    let l1 = both_none (fault_if (ltb (length f.keys) (length (x ∷ xs)) || not (eqb marks (length f.keys))) faults.Length) (first_between turn_fault 1 x xs ⊳ fault_if (ltb (last_of x xs).turn (length f.keys - 1)) faults.Length ⊳ first_between (link_fault r f) 1 x xs) q.0 in
    let l2 = both_none (first_between turn_fault 1 x xs) (fault_if (ltb (last_of x xs).turn (length f.keys - 1)) faults.Length ⊳ first_between (link_fault r f) 1 x xs) l1.1 in
    let l3 = both_none (fault_if (ltb (last_of x xs).turn (length f.keys - 1)) faults.Length) (first_between (link_fault r f) 1 x xs) l2.1 in
    let counts = or_false (ltb (length f.keys) (length (x ∷ xs))) (not (eqb marks (length f.keys))) (unbroken (ltb (length f.keys) (length (x ∷ xs)) || not (eqb marks (length f.keys))) faults.Length l1.0) in
    record {
      steps = follows r f 1 x xs l3.1;
      rise = rises 1 x xs l2.0;
      few = not_above (length f.keys) (length (x ∷ xs)) counts.0;
      marked = (Decides-eqb marks (length f.keys)).0 (not_not (eqb marks (length f.keys)) counts.1);
      top = q.1;
      enough = reached (length f.keys) (last_of x xs).turn turn q.1 (unbroken (ltb (last_of x xs).turn (length f.keys - 1)) faults.Length l3.0);
    }
  where
    not_above : (a b : ℕ) → ltb a b ≡ false → b ≤ a
    not_above a b h = grind (arith, nat_tests)

    reached : (n t u : ℕ) → t ≡ u → ltb t (n - 1) ≡ false → n ≤ u + 1
    reached n t u e h = let k = not_above t (n - 1) h in omega arith

module _ (r : Rules) (f : FixedParts) (marks : List Mark) (verified : List Bool) (turn : ℕ) where
  from_mark : (x : StateParts) (xs : List StateParts) → Row r f x xs (length marks) turn → (j : ℕ) (mark : Mark) → is_late (length f.keys) turn j (slice_get (x ∷ xs) mark.place) ≡ true → FromMark r f (x ∷ xs) turn j mark.place
  from_mark x xs row j mark late =
      let s = late_state (length f.keys) turn j (slice_get (x ∷ xs) mark.place) late in
      let t = tail_at r f mark.place x xs s.0 s.1 row.steps row.rise in
      let top : (last_of s.0 (drop (suc mark.place) (x ∷ xs))).turn ≡ turn = ap (λ (p : StateParts). p.turn) t.last ∙ row.top in
      let up : s.0.turn ≤ turn = subst (λ (k : ℕ). s.0.turn ≤ k) top (turns_up s.0 (drop (suc mark.place) (x ∷ xs)) t.rise) in
      record {
        state = s.0;
        there = s.1;
        late = s.2;
        own = λ mine. (let k = last_turn_greatest (length f.keys) j turn s.0.turn up mine in let l = s.2 in omega arith);
        rises = t.rise;
        steps = t.steps;
        few = (let a = t.few in let b = row.few in omega arith);
        last = ap (λ (p : StateParts). Some p) (sym t.last);
      }

  in_row : (states : List StateParts) → marked_row f states marks verified (row_of r f states (length marks)) ≡ Ok turn → IsSupported r (record { fixed = f; states = states; marks = marks }) verified turn
  in_row [] h = absurd cc
  in_row (x ∷ xs) h =
      let m = marked_ok f (x ∷ xs) marks verified turn (row_of r f (x ∷ xs) (length marks)) h in
      let row = row_means r f x xs (length marks) turn m.0 in
      record {
        row = (row.rise, row.steps);
        few = row.few;
        marks = row.marked;
        top = row.top;
        all_had_a_turn = row.enough;
        each = λ j mark there. (
            let d = mark_does (length f.keys) turn (x ∷ xs) 0 marks verified m.1 j mark there in
            let z : 0 + j ≡ j = omega arith in
            (d.0, from_mark x xs row j mark (subst (λ (k : ℕ). is_late (length f.keys) turn k (slice_get (x ∷ xs) mark.place) ≡ true) z d.1))
            );
      }

pub support_tells : SupportTells
support_tells r chain verified turn h = in_row r chain.fixed chain.marks verified turn chain.states h
