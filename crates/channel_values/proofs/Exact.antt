-- A chain supports a turn exactly where the conditions hold, and what it supports is said by its marks.
use Rattle.std.proofs.Common.{◌≡◌, ℕ, zero, suc, ◌+◌, ◌-◌, ◌≤◌, Bool, true, false, not, ◌&&◌, ◌||◌, eqb, ltb, leb, List, [], ◌∷◌, length, Ok, refl, sym, ap, subst, ◌∙◌, arith}
use Rattle.std.specs.Prelude.{Option, Some, None}
use Rattle.std.specs.List.{slice_get}
use Rattle.std.specs.Option.{option_map}
use Rattle.std.proofs.lemmas.Bool.Decides.{nat_tests}
use Rattle.channel_values.specs.Parts.{FixedParts, StateParts}
use Rattle.channel_values.specs.declared.chain.Chain.{Chain}
use Rattle.channel_values.specs.declared.chain.Mark.{Mark}
use Rattle.channel_values.specs.declared.fault.StepFault.{StepFault}
use Rattle.channel_values.specs.declared.fault.SupportFault.TheVariants as faults
use Rattle.channel_values.specs.Words.{fault_if, ◌⊳◌}
use Rattle.channel_values.specs.Rows.{first_between, last_of, turn_fault, last_turn, is_late, marks_fault, turn_unless, marked_row}
use Rattle.channel_values.specs.Rules.{Rules, people, signs_state}
use Rattle.channel_values.specs.Support.{link_fault, row_of, is_marked_well, verified_from, verified_marks, support_of, supports}
use Rattle.channel_values.specs.Supported.{Rises, AreSteps, IsSupported, FromMark, Stands, Supports, SupportIsExact, SupportIsByMarks}
use Rattle.channel_values.proofs.Rows.{same_some, support_tells}

no_none : {A : Type 0} (x : A) → None ≡ Some x → ⊥
no_none x e = cc

-- ---- truth values

as_many : (r : Rules) (f : FixedParts) (states : List StateParts) (j : ℕ) (marks : List Mark) → length (verified_from r f states j marks) ≡ length marks
as_many r f states j [] = refl
as_many r f states j (mark ∷ marks) = ap suc (as_many r f states (j + 1) marks)

verified_at : (r : Rules) (f : FixedParts) (states : List StateParts) (j : ℕ) (marks : List Mark) (i : ℕ) (mark : Mark) → slice_get marks i ≡ Some mark
    → slice_get (verified_from r f states j marks) i ≡ Some (is_marked_well r f (j + i) mark.signature (slice_get states mark.place))
verified_at r f states j [] i mark e = absurd (no_none mark e)
verified_at r f states j (m ∷ marks) zero mark e =
    let z : j ≡ j + 0 = omega arith in
    ap (λ (q : Mark). Some (is_marked_well r f j q.signature (slice_get states q.place))) (same_some m mark e)
    ∙ ap (λ (k : ℕ). Some (is_marked_well r f k mark.signature (slice_get states mark.place))) z
verified_at r f states j (m ∷ marks) (suc i) mark e =
    let z : (j + 1) + i ≡ j + suc i = omega arith in
    verified_at r f states (j + 1) marks i mark e ∙ ap (λ (k : ℕ). Some (is_marked_well r f k mark.signature (slice_get states mark.place))) z

no_others : (r : Rules) (f : FixedParts) (states : List StateParts) (j : ℕ) (marks : List Mark) (verified : List Bool) → length verified ≡ length marks
    → ((i : ℕ) (mark : Mark) → slice_get marks i ≡ Some mark → slice_get verified i ≡ Some (is_marked_well r f (j + i) mark.signature (slice_get states mark.place)))
    → verified ≡ verified_from r f states j marks
no_others r f states j [] [] l each = refl
no_others r f states j [] (v ∷ verified) l each = absurd (omega arith)
no_others r f states j (m ∷ marks) [] l each = absurd (omega arith)
no_others r f states j (m ∷ marks) (v ∷ verified) l each =
    let z : j + 0 ≡ j = omega arith in
    let here : v ≡ is_marked_well r f j m.signature (slice_get states m.place) =
    same_some v (is_marked_well r f (j + 0) m.signature (slice_get states m.place)) (each 0 m refl) ∙ ap (λ (k : ℕ). is_marked_well r f k m.signature (slice_get states m.place)) z in
    let rest : verified ≡ verified_from r f states (j + 1) marks =
    no_others r f states (j + 1) marks verified (omega arith)
    (λ i mark e. (let y : j + suc i ≡ (j + 1) + i = omega arith in each (suc i) mark e ∙ ap (λ (k : ℕ). Some (is_marked_well r f k mark.signature (slice_get states mark.place))) y)) in
    ap (λ (b : Bool). b ∷ verified) here ∙ ap (λ (bs : List Bool). is_marked_well r f j m.signature (slice_get states m.place) ∷ bs) rest

pub support_is_by_marks : SupportIsByMarks
unfolding supports
support_is_by_marks r chain = (
  record {
    as_many = as_many r chain.fixed chain.states 0 chain.marks;
    each = λ j mark e. (let z : 0 + j ≡ j = omega arith in verified_at r chain.fixed chain.states 0 chain.marks j mark e ∙ ap (λ (k : ℕ). Some (is_marked_well r chain.fixed k mark.signature (slice_get chain.states mark.place))) z);
  },
  λ verified h. ap (support_of r chain) (no_others r chain.fixed chain.states 0 chain.marks verified h.as_many
      (λ i mark e. (let z : i ≡ 0 + i = omega arith in h.each i mark e ∙ ap (λ (k : ℕ). Some (is_marked_well r chain.fixed k mark.signature (slice_get chain.states mark.place))) z))),
)

-- ---- what a supported chain meets

marked_on : (r : Rules) (f : FixedParts) (j : ℕ) (signature : List ℕ) (o : Option StateParts) (s : StateParts) → o ≡ Some s → is_marked_well r f j signature o ≡ true → signs_state r f j s signature ≡ true
marked_on r f j signature o s e h = subst (λ (x : Option StateParts). is_marked_well r f j signature x ≡ true) e h

meets : (r : Rules) (chain : Chain) (turn : ℕ) → IsSupported r chain (verified_marks r chain) turn → Supports r chain turn
meets r chain turn p =
    record {
      row = p.row;
      few = p.few;
      marks = p.marks;
      top = p.top;
      all_had_a_turn = p.all_had_a_turn;
      each = λ j mark e. stands j mark e (p.each j mark e);
    }
  where
    stands : (j : ℕ) (mark : Mark) → slice_get chain.marks j ≡ Some mark → (slice_get (verified_marks r chain) j ≡ Some true) × FromMark r chain.fixed chain.states turn j mark.place → Stands r chain turn j mark
    stands j mark e h =
        let z : 0 + j ≡ j = omega arith in
        let well : is_marked_well r chain.fixed (0 + j) mark.signature (slice_get chain.states mark.place) ≡ true =
        same_some (is_marked_well r chain.fixed (0 + j) mark.signature (slice_get chain.states mark.place)) true (sym (verified_at r chain.fixed chain.states 0 chain.marks j mark e) ∙ h.0) in
        record {
          state = h.1.state;
          there = h.1.there;
          late = h.1.late;
          signed = marked_on r chain.fixed j mark.signature (slice_get chain.states mark.place) h.1.state h.1.there
              (subst (λ (k : ℕ). is_marked_well r chain.fixed k mark.signature (slice_get chain.states mark.place) ≡ true) z well);
        }

-- ---- what meets the conditions is supported

none_then : {E : Type 0} (a b : Option E) → a ≡ None → b ≡ None → (a ⊳ b) ≡ None
none_then None b h k = k
none_then (Some x) b h k = absurd cc

no_fault : {E : Type 0} (b : Bool) (e : E) → b ≡ false → fault_if b e ≡ None
no_fault true e h = absurd cc
no_fault false e h = refl

same_not : (a b : ℕ) → a ≡ b → not (eqb a b) ≡ false
same_not a b h = grind (arith, nat_tests)

at_most : (a b : ℕ) → a ≤ b → leb a b ≡ true
at_most a b h = grind (arith, nat_tests)

rises_none : (i : ℕ) (s : StateParts) (ts : List StateParts) → Rises s ts → first_between turn_fault i s ts ≡ None
rises_none i s [] h = refl
rises_none i s (t ∷ ts) h =
    none_then (turn_fault i s t) (first_between turn_fault (i + 1) t ts) (no_fault (not (eqb t.turn (s.turn + 1))) (faults.Turn i) (same_not t.turn (s.turn + 1) h.0)) (rises_none (i + 1) t ts h.1)

steps_none : (r : Rules) (f : FixedParts) (i : ℕ) (s : StateParts) (ts : List StateParts) → AreSteps r f s ts → first_between (link_fault r f) i s ts ≡ None
steps_none r f i s [] h = refl
steps_none r f i s (t ∷ ts) h =
    none_then (link_fault r f i s t) (first_between (link_fault r f) (i + 1) t ts) (ap (option_map (λ (fault : StepFault). faults.Step i fault)) h.0) (steps_none r f (i + 1) t ts h.1)

-- a mark that stands on the state at its place
record StandsOn (r : Rules) (f : FixedParts) (turn j : ℕ) (mark : Mark) (o : Option StateParts) : Type 0 where
  state : StateParts
  there : o ≡ Some state
  late : last_turn (people f) j turn ≤ state.turn
  signed : signs_state r f j state mark.signature ≡ true

marks_none : (r : Rules) (f : FixedParts) (states : List StateParts) (turn j : ℕ) (marks : List Mark)
    → ((i : ℕ) (mark : Mark) → slice_get marks i ≡ Some mark → StandsOn r f turn (j + i) mark (slice_get states mark.place))
    → marks_fault (people f) turn states j marks (verified_from r f states j marks) ≡ None
marks_none r f states turn j [] each = refl
marks_none r f states turn j (m ∷ marks) each =
    none_then (fault_if (not (is_marked_well r f j m.signature (slice_get states m.place) && is_late (people f) turn j (slice_get states m.place))) (faults.Signature j))
    (marks_fault (people f) turn states (j + 1) marks (verified_from r f states (j + 1) marks))
    (no_fault (not (is_marked_well r f j m.signature (slice_get states m.place) && is_late (people f) turn j (slice_get states m.place))) (faults.Signature j) (first (slice_get states m.place) (each 0 m refl)))
    (marks_none r f states turn (j + 1) marks (λ i mark e. (let z : j + suc i ≡ (j + 1) + i = omega arith in subst (λ (k : ℕ). StandsOn r f turn k mark (slice_get states mark.place)) z (each (suc i) mark e))))
  where
    both : (a b : Bool) → a ≡ true → b ≡ true → not (a && b) ≡ false
    both true true p q = refl
    both true false p q = absurd cc
    both false b p q = absurd cc

    first : (o : Option StateParts) → StandsOn r f turn (j + 0) m o → not (is_marked_well r f j m.signature o && is_late (people f) turn j o) ≡ false
    first o st =
        let z : j + 0 ≡ j = omega arith in
        let late : last_turn (people f) j turn ≤ st.state.turn = subst (λ (k : ℕ). last_turn (people f) k turn ≤ st.state.turn) z st.late in
        subst (λ (y : Option StateParts). not (is_marked_well r f j m.signature y && is_late (people f) turn j y) ≡ false) (sym st.there)
        (both (signs_state r f j st.state m.signature) (leb (last_turn (people f) j turn) st.state.turn)
        (subst (λ (k : ℕ). signs_state r f k st.state m.signature ≡ true) z st.signed)
        (at_most (last_turn (people f) j turn) st.state.turn late))

faultless : (r : Rules) (f : FixedParts) (s : StateParts) (ss : List StateParts) (marks : ℕ) → length (s ∷ ss) ≤ people f → marks ≡ people f → Rises s ss → people f ≤ (last_of s ss).turn + 1 → AreSteps r f s ss
    → row_of r f (s ∷ ss) marks ≡ Ok (last_of s ss).turn
faultless r f s ss marks few many rise enough steps =
    ap (turn_unless (last_of s ss).turn)
    (none_then (fault_if (ltb (people f) (length (s ∷ ss)) || not (eqb marks (people f))) faults.Length) (first_between turn_fault 1 s ss ⊳ fault_if (ltb (last_of s ss).turn (people f - 1)) faults.Length ⊳ first_between (link_fault r f) 1 s ss)
    (no_fault (ltb (people f) (length (s ∷ ss)) || not (eqb marks (people f))) faults.Length (counts (people f) (length (s ∷ ss)) marks few many))
    (none_then (first_between turn_fault 1 s ss) (fault_if (ltb (last_of s ss).turn (people f - 1)) faults.Length ⊳ first_between (link_fault r f) 1 s ss) (rises_none 1 s ss rise)
    (none_then (fault_if (ltb (last_of s ss).turn (people f - 1)) faults.Length) (first_between (link_fault r f) 1 s ss) (no_fault (ltb (last_of s ss).turn (people f - 1)) faults.Length (reached (people f) (last_of s ss).turn enough)) (steps_none r f 1 s ss steps))))
  where
    counts : (n l m : ℕ) → l ≤ n → m ≡ n → (ltb n l || not (eqb m n)) ≡ false
    counts n l m h k = grind (arith, nat_tests)

    not_below : (x y : ℕ) → y ≤ x → ltb x y ≡ false
    not_below x y h = grind (arith, nat_tests)

    reached : (n t : ℕ) → n ≤ t + 1 → ltb t (n - 1) ≡ false
    reached n t h = let k : n - 1 ≤ t = omega arith in not_below t (n - 1) k

module _ (r : Rules) (f : FixedParts) (marks : List Mark) (turn : ℕ) where
  supported : (states : List StateParts) → Supports r (record { fixed = f; states = states; marks = marks }) turn
      → marked_row f states marks (verified_from r f states 0 marks) (row_of r f states (length marks)) ≡ Ok turn
  supported [] p = elim p.row [ ]
  supported (s ∷ ss) p =
      let e : (last_of s ss).turn ≡ turn = p.top in
      let row = faultless r f s ss (length marks) p.few p.marks p.row.0 (subst (λ (k : ℕ). people f ≤ k + 1) (sym e) p.all_had_a_turn) p.row.1 in
      ap (marked_row f (s ∷ ss) marks (verified_from r f (s ∷ ss) 0 marks)) (row ∙ ap (λ (k : ℕ). Ok k) e)
      ∙ ap (turn_unless turn) (marks_none r f (s ∷ ss) turn 0 marks (λ i mark there. on i mark (p.each i mark there)))
    where
      on : (i : ℕ) (mark : Mark) → Stands r (record { fixed = f; states = s ∷ ss; marks = marks }) turn i mark → StandsOn r f turn (0 + i) mark (slice_get (s ∷ ss) mark.place)
      on i mark st =
          let z : i ≡ 0 + i = omega arith in
          subst (λ (k : ℕ). StandsOn r f turn k mark (slice_get (s ∷ ss) mark.place)) z
          (record { state = st.state; there = st.there; late = st.late; signed = st.signed })

pub support_is_exact : SupportIsExact
unfolding supports
support_is_exact r chain turn = (
  λ h. meets r chain turn (support_tells r chain (verified_marks r chain) turn h),
  λ p. supported r chain.fixed chain.marks turn chain.states p,
)
