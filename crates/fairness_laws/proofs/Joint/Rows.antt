-- Which row of the table of a virtual channel wants a state, at an end and at the intermediary, and what is known
-- where it does.
use Rattle.std.proofs.Common.{◌≡◌, ℕ, ◌≤◌, Bool, true, false, cond, ◌||◌, ◌⊎◌, inl, inr, List, refl, arith}
use Rattle.std.specs.Prelude.{Some, None}
use Rattle.std.specs.Str.{bytes_eq}
use Rattle.channel_values.specs.Parts.{StateParts}
use Rattle.channel_safety.proofs.Tests.{none-eq}
use Rattle.funding_plans.specs.Rows.{wanted_in}
use Rattle.funding_plans.specs.Seats.{holds, repeats, final_state, toward, settled_on, up_in, down_in, is_down}
use Rattle.virtual_channel.specs.Ends as ends
use Rattle.virtual_channel.specs.Ends.{End, end_rows}
use Rattle.virtual_channel.specs.Middles as middles
use Rattle.virtual_channel.specs.Middles.{Middle, middle_rows, back_to}
use Rattle.fairness_laws.proofs.Rows.{wished}

-- numbers
two-two : 2 ≤ 2
two-two = omega arith

two-four : 2 ≤ 4
two-four = omega arith

four-four : 4 ≤ 4
four-four = omega arith

three-three : 3 ≤ 3
three-three = omega arith

three-six : 3 ≤ 6
three-six = omega arith

six-six : 6 ≤ 6
six-six = omega arith

-- ---- an end

pub data EndWants (p : End) (c : List ℕ) (s : StateParts) : Type 0 where
  guarantees : p.closing ≡ false → ends.are_set_up p ≡ false → bytes_eq p.guarantor.name c ≡ true → repeats 0 2 p.guarantor ≡ Some s → EndWants p c s
  splits : (from until : ℕ) → until ≤ 6 → p.closing ≡ false → ((until ≤ 3) × (ends.are_set_up p ≡ false)) ⊎ ((ends.are_set_up p ≡ true) × (holds 5 p.joint ≡ false)) → (until ≤ 3) ⊎ (ends.is_settled_up p ≡ true) → bytes_eq p.joint.name c ≡ true
      → repeats from until p.joint ≡ Some s → EndWants p c s
  opens : (from until : ℕ) → until ≤ 4 → (until ≤ 2) ⊎ ((ends.are_set_up p ≡ true) × (settled_on (ends.target_together p) p.joint ≡ true)) → bytes_eq p.channel.name c ≡ true
      → repeats from until p.channel ≡ Some s → EndWants p c s
  ups : p.closing ≡ false → ends.are_set_up p ≡ true → ends.is_settled_up p ≡ false → bytes_eq p.ledger.name c ≡ true → toward (ends.target_up p) p.ledger ≡ Some s → EndWants p c s
  joins : p.closing ≡ false → ends.are_set_up p ≡ true → ends.is_settled_up p ≡ true → holds 5 p.joint ≡ true → settled_on (ends.target_together p) p.joint ≡ false → bytes_eq p.joint.name c ≡ true
      → toward (ends.target_together p) p.joint ≡ Some s → EndWants p c s
  finals : p.closing ≡ true → p.channel.all_final ≡ false → bytes_eq p.channel.name c ≡ true → final_state p.channel ≡ Some s → EndWants p c s
  parts : p.closing ≡ true → p.channel.all_final ≡ true → settled_on (ends.target_back p) p.joint ≡ false → bytes_eq p.joint.name c ≡ true → toward (ends.target_back p) p.joint ≡ Some s
      → EndWants p c s
  downs : p.closing ≡ true → p.channel.all_final ≡ true → settled_on (ends.target_back p) p.joint ≡ true → is_down p.child p.ledger ≡ false → bytes_eq p.ledger.name c ≡ true
      → toward (ends.target_down p) p.ledger ≡ Some s → EndWants p c s

pub end-wants : (p : End) (c : List ℕ) (s : StateParts) → wanted_in c (end_rows p) ≡ Some s → EndWants p c s
end-wants p c s e =
    by p.closing refl (ends.are_set_up p) refl (ends.is_settled_up p) refl (holds 5 p.joint) refl (settled_on (ends.target_together p) p.joint) refl (holds 3 p.channel) p.channel.all_final refl
    (settled_on (ends.target_back p) p.joint) refl (is_down p.child p.ledger) refl e
  where
    first : p.closing ≡ false → ends.are_set_up p ≡ false → (g j x : Bool) → bytes_eq p.guarantor.name c ≡ g → bytes_eq p.joint.name c ≡ j → bytes_eq p.channel.name c ≡ x
        → cond g (repeats 0 2 p.guarantor) (cond j (repeats 0 3 p.joint) (cond x (repeats 0 2 p.channel) None)) ≡ Some s → EndWants p c s
    first z u true j x eg ej ex e = guarantees z u eg e
    first z u false true x eg ej ex e = splits 0 3 three-six z (inl (three-three, u)) (inl three-three) ej e
    first z u false false true eg ej ex e = opens 0 2 two-four (inl two-two) ex e
    first z u false false false eg ej ex e = absurd (none-eq s e)

    by : (closing : Bool) → p.closing ≡ closing → (set : Bool) → ends.are_set_up p ≡ set → (up : Bool) → ends.is_settled_up p ≡ up → (five : Bool) → holds 5 p.joint ≡ five → (tog : Bool) → settled_on (ends.target_together p) p.joint ≡ tog
        → (three fin : Bool) → p.channel.all_final ≡ fin → (back : Bool) → settled_on (ends.target_back p) p.joint ≡ back → (down : Bool) → is_down p.child p.ledger ≡ down
        → cond (closing || set)
        (cond (closing || up)
        (cond (closing || five)
        (cond (closing || tog)
        (cond (closing || three)
        (cond closing
        (cond fin
        (cond back (cond down None (cond (bytes_eq p.ledger.name c) (toward (ends.target_down p) p.ledger) None)) (cond (bytes_eq p.joint.name c) (toward (ends.target_back p) p.joint) None))
        (cond (bytes_eq p.channel.name c) (final_state p.channel) None))
        None)
        (cond (bytes_eq p.channel.name c) (repeats 2 4 p.channel) None))
        (cond (bytes_eq p.joint.name c) (toward (ends.target_together p) p.joint) None))
        (cond (bytes_eq p.joint.name c) (repeats 3 6 p.joint) None))
        (cond (bytes_eq p.ledger.name c) (toward (ends.target_up p) p.ledger) None))
        (cond (bytes_eq p.guarantor.name c) (repeats 0 2 p.guarantor) (cond (bytes_eq p.joint.name c) (repeats 0 3 p.joint) (cond (bytes_eq p.channel.name c) (repeats 0 2 p.channel) None))) ≡ Some s
        → EndWants p c s
    by false z false es up eu five e5 tog et three fin ef back eb down ed e = first z es (bytes_eq p.guarantor.name c) (bytes_eq p.joint.name c) (bytes_eq p.channel.name c) refl refl refl e
    by false z true es false eu five e5 tog et three fin ef back eb down ed e = let w = wished (bytes_eq p.ledger.name c) (toward (ends.target_up p) p.ledger) s e in ups z es eu w.here w.is
    by false z true es true eu false e5 tog et three fin ef back eb down ed e = let w = wished (bytes_eq p.joint.name c) (repeats 3 6 p.joint) s e in splits 3 6 six-six z (inr (es, e5)) (inr eu) w.here w.is
    by false z true es true eu true e5 false et three fin ef back eb down ed e = let w = wished (bytes_eq p.joint.name c) (toward (ends.target_together p) p.joint) s e in joins z es eu e5 et w.here w.is
    by false z true es true eu true e5 true et false fin ef back eb down ed e = let w = wished (bytes_eq p.channel.name c) (repeats 2 4 p.channel) s e in opens 2 4 four-four (inr (es, et)) w.here w.is
    by false z true es true eu true e5 true et true fin ef back eb down ed e = absurd (none-eq s e)
    by true z set es up eu five e5 tog et three false ef back eb down ed e = let w = wished (bytes_eq p.channel.name c) (final_state p.channel) s e in finals z ef w.here w.is
    by true z set es up eu five e5 tog et three true ef false eb down ed e = let w = wished (bytes_eq p.joint.name c) (toward (ends.target_back p) p.joint) s e in parts z ef eb w.here w.is
    by true z set es up eu five e5 tog et three true ef true eb false ed e = let w = wished (bytes_eq p.ledger.name c) (toward (ends.target_down p) p.ledger) s e in downs z ef eb ed w.here w.is
    by true z set es up eu five e5 tog et three true ef true eb true ed e = absurd (none-eq s e)

-- ---- the intermediary

pub data MiddleWants (p : Middle) (c : List ℕ) (s : StateParts) : Type 0 where
  guarantees_a : p.closing ≡ false → middles.are_set_up p ≡ false → bytes_eq p.guarantor_a.name c ≡ true → repeats 0 2 p.guarantor_a ≡ Some s → MiddleWants p c s
  guarantees_b : p.closing ≡ false → middles.are_set_up p ≡ false → bytes_eq p.guarantor_b.name c ≡ true → repeats 0 2 p.guarantor_b ≡ Some s → MiddleWants p c s
  splits : (from until : ℕ) → until ≤ 6 → p.closing ≡ false → ((until ≤ 3) × (middles.are_set_up p ≡ false)) ⊎ ((middles.are_set_up p ≡ true) × (holds 5 p.joint ≡ false)) → (until ≤ 3) ⊎ (middles.is_settled_up p ≡ true) → bytes_eq p.joint.name c ≡ true
      → repeats from until p.joint ≡ Some s → MiddleWants p c s
  ups_a : p.closing ≡ false → middles.are_set_up p ≡ true → middles.is_settled_up p ≡ false → bytes_eq p.ledger_a.name c ≡ true
      → toward (up_in p.child_a p.ledger_a) p.ledger_a ≡ Some s → MiddleWants p c s
  ups_b : p.closing ≡ false → middles.are_set_up p ≡ true → middles.is_settled_up p ≡ false → bytes_eq p.ledger_b.name c ≡ true
      → toward (up_in p.child_b p.ledger_b) p.ledger_b ≡ Some s → MiddleWants p c s
  joins : p.closing ≡ false → middles.are_set_up p ≡ true → middles.is_settled_up p ≡ true → holds 5 p.joint ≡ true → settled_on (middles.target_together p) p.joint ≡ false → bytes_eq p.joint.name c ≡ true
      → toward (middles.target_together p) p.joint ≡ Some s → MiddleWants p c s
  parts : p.closing ≡ true → middles.is_settled_back p ≡ false → bytes_eq p.joint.name c ≡ true → back_to p (middles.found p) ≡ Some s → MiddleWants p c s
  downs_a : p.closing ≡ true → middles.is_settled_back p ≡ true → middles.are_down p ≡ false → bytes_eq p.ledger_a.name c ≡ true → toward (down_in p.child_a p.ledger_a (middles.found p)) p.ledger_a ≡ Some s
      → MiddleWants p c s
  downs_b : p.closing ≡ true → middles.is_settled_back p ≡ true → middles.are_down p ≡ false → bytes_eq p.ledger_b.name c ≡ true → toward (down_in p.child_b p.ledger_b (middles.found p)) p.ledger_b ≡ Some s
      → MiddleWants p c s

pub middle-wants : (p : Middle) (c : List ℕ) (s : StateParts) → wanted_in c (middle_rows p) ≡ Some s → MiddleWants p c s
middle-wants p c s e =
    by p.closing refl (middles.are_set_up p) refl (middles.is_settled_up p) refl (holds 5 p.joint) refl (settled_on (middles.target_together p) p.joint) refl (middles.is_settled_back p) refl (middles.are_down p) refl e
  where
    first : p.closing ≡ false → middles.are_set_up p ≡ false → (g k j : Bool) → bytes_eq p.guarantor_a.name c ≡ g → bytes_eq p.guarantor_b.name c ≡ k → bytes_eq p.joint.name c ≡ j
        → cond g (repeats 0 2 p.guarantor_a) (cond k (repeats 0 2 p.guarantor_b) (cond j (repeats 0 3 p.joint) None)) ≡ Some s → MiddleWants p c s
    first z u true k j eg ek ej e = guarantees_a z u eg e
    first z u false true j eg ek ej e = guarantees_b z u ek e
    first z u false false true eg ek ej e = splits 0 3 three-six z (inl (three-three, u)) (inl three-three) ej e
    first z u false false false eg ek ej e = absurd (none-eq s e)

    rises : p.closing ≡ false → middles.are_set_up p ≡ true → middles.is_settled_up p ≡ false → (a b : Bool) → bytes_eq p.ledger_a.name c ≡ a → bytes_eq p.ledger_b.name c ≡ b
        → cond a (toward (up_in p.child_a p.ledger_a) p.ledger_a) (cond b (toward (up_in p.child_b p.ledger_b) p.ledger_b) None) ≡ Some s → MiddleWants p c s
    rises z es eu true b ea eb e = ups_a z es eu ea e
    rises z es eu false true ea eb e = ups_b z es eu eb e
    rises z es eu false false ea eb e = absurd (none-eq s e)

    falls : p.closing ≡ true → middles.is_settled_back p ≡ true → middles.are_down p ≡ false → (a b : Bool) → bytes_eq p.ledger_a.name c ≡ a → bytes_eq p.ledger_b.name c ≡ b
        → cond a (toward (down_in p.child_a p.ledger_a (middles.found p)) p.ledger_a) (cond b (toward (down_in p.child_b p.ledger_b (middles.found p)) p.ledger_b) None) ≡ Some s → MiddleWants p c s
    falls z es ed true b ea eb e = downs_a z es ed ea e
    falls z es ed false true ea eb e = downs_b z es ed eb e
    falls z es ed false false ea eb e = absurd (none-eq s e)

    by : (closing : Bool) → p.closing ≡ closing → (set : Bool) → middles.are_set_up p ≡ set → (up : Bool) → middles.is_settled_up p ≡ up → (five : Bool) → holds 5 p.joint ≡ five → (tog : Bool) → settled_on (middles.target_together p) p.joint ≡ tog
        → (back : Bool) → middles.is_settled_back p ≡ back → (down : Bool) → middles.are_down p ≡ down
        → cond (closing || set)
        (cond (closing || up)
        (cond (closing || five)
        (cond (closing || tog)
        (cond closing
        (cond back
        (cond down None (cond (bytes_eq p.ledger_a.name c) (toward (down_in p.child_a p.ledger_a (middles.found p)) p.ledger_a) (cond (bytes_eq p.ledger_b.name c) (toward (down_in p.child_b p.ledger_b (middles.found p)) p.ledger_b) None)))
        (cond (bytes_eq p.joint.name c) (back_to p (middles.found p)) None))
        None)
        (cond (bytes_eq p.joint.name c) (toward (middles.target_together p) p.joint) None))
        (cond (bytes_eq p.joint.name c) (repeats 3 6 p.joint) None))
        (cond (bytes_eq p.ledger_a.name c) (toward (up_in p.child_a p.ledger_a) p.ledger_a) (cond (bytes_eq p.ledger_b.name c) (toward (up_in p.child_b p.ledger_b) p.ledger_b) None)))
        (cond (bytes_eq p.guarantor_a.name c) (repeats 0 2 p.guarantor_a) (cond (bytes_eq p.guarantor_b.name c) (repeats 0 2 p.guarantor_b) (cond (bytes_eq p.joint.name c) (repeats 0 3 p.joint) None))) ≡ Some s
        → MiddleWants p c s
    by false z false es up eu five e5 tog et back eb down ed e = first z es (bytes_eq p.guarantor_a.name c) (bytes_eq p.guarantor_b.name c) (bytes_eq p.joint.name c) refl refl refl e
    by false z true es false eu five e5 tog et back eb down ed e = rises z es eu (bytes_eq p.ledger_a.name c) (bytes_eq p.ledger_b.name c) refl refl e
    by false z true es true eu false e5 tog et back eb down ed e = let w = wished (bytes_eq p.joint.name c) (repeats 3 6 p.joint) s e in splits 3 6 six-six z (inr (es, e5)) (inr eu) w.here w.is
    by false z true es true eu true e5 false et back eb down ed e = let w = wished (bytes_eq p.joint.name c) (toward (middles.target_together p) p.joint) s e in joins z es eu e5 et w.here w.is
    by false z true es true eu true e5 true et back eb down ed e = absurd (none-eq s e)
    by true z set es up eu five e5 tog et false eb down ed e = let w = wished (bytes_eq p.joint.name c) (back_to p (middles.found p)) s e in parts z eb w.here w.is
    by true z set es up eu five e5 tog et true eb false ed e = falls z eb ed (bytes_eq p.ledger_a.name c) (bytes_eq p.ledger_b.name c) refl refl e
    by true z set es up eu five e5 tog et true eb true ed e = absurd (none-eq s e)
