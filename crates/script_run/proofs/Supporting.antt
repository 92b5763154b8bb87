-- The chain of the two final states is supported, and newer than the one before.
use Rattle.std.proofs.Common.{◌≡◌, ℕ, ◌+◌, ◌-◌, ◌%◌, ◌<◌, ◌≤◌, Bool, true, false, cond, eqb, ◌&&◌, ◌||◌, not, List, [], ◌∷◌, refl, sym, ◌∙◌, ap, subst, arith}
use Rattle.std.specs.Prelude.{nat_lt, nat_le, None, Result, Ok, is_ok}
use Rattle.std.proofs.lemmas.Bool.Decides.{nat_tests}
use Rattle.channel_values.specs.declared.chain.Chain.{Chain}
use Rattle.channel_values.specs.declared.chain.Mark.{Mark}
use Rattle.channel_values.specs.declared.fault.SupportFault.{SupportFault}
use Rattle.channel_values.specs.Parts.{StateParts}
use Rattle.channel_values.specs.Rows.{last_turn}
use Rattle.channel_values.specs.Support.{support_of, verified_marks, supports}
use Rattle.channel_values.proofs.Turns.{last_turn_at_most, turn_down}
use Rattle.call_history.specs.Marked.{marked_of, is_newer, is_supported}
use Rattle.support_rules.specs.Real.{real}
use Rattle.script_run.proofs.PairNumbers.{same-number, not-less}
use Rattle.script_run.specs.Pair.{state, marks_a, marks_b, chain}
use Rattle.script_run.specs.TwoPeople.{Pair, fixed}
use Rattle.script_run.proofs.Notes.{Well}
use Rattle.script_run.proofs.Replies.{last_chain}

not-low : (n : ℕ) → nat_lt (n + 1) 1 ≡ false
not-low n = grind (arith, nat_tests)

within : (j t : ℕ) → nat_le (last_turn 2 j t) t ≡ true
within j t = let h : last_turn 2 j t ≤ t = last_turn_at_most 2 j t in grind (arith, nat_tests)

back : (t : ℕ) → t + 1 - 1 ≡ t
back t = omega arith

-- of the one who didn't move last
within-before : (j t : ℕ) → (t + 1) % 2 ≡ 1 - j → j < 2 → nat_le (last_turn 2 j (t + 1)) t ≡ true
within-before j t whose small =
    let down : last_turn 2 j (t + 1) ≡ cond (eqb ((t + 1) % 2) j) (t + 1) (last_turn 2 j t) = turn_down 2 j (t + 1) (omega arith) ∙ ap (λ (k : ℕ). cond (eqb ((t + 1) % 2) j) (t + 1) (last_turn 2 j k)) (back t) in
    let other : eqb ((t + 1) % 2) j ≡ false = grind (arith, nat_tests) in
    subst (λ (k : ℕ). nat_le k t ≡ true) (sym (down ∙ ap (λ (b : Bool). cond b (t + 1) (last_turn 2 j t)) other)) (within j t)

-- the first signed the first of the two states
pub supported_b : (p : Pair) (turn x y : ℕ) (s1 s2 : List ℕ) → (turn + 1) % 2 ≡ 1 → real.step (fixed p) (state p turn true x y) (state p (turn + 1) true x y) ≡ None
    → Well real p p.key_a (state p turn true x y) s1 → Well real p p.key_b (state p (turn + 1) true x y) s2
    → support_of real (last_chain p turn x y (marks_b s1 s2)) (verified_marks real (last_chain p turn x y (marks_b s1 s2))) ≡ Ok (turn + 1)
supported_b p turn x y s1 s2 whose step well_1 well_2 =
    simp (same-number (turn + 1), not-low turn, step, well_1, well_2, within-before 0 turn whose (omega arith), within 1 (turn + 1))

pub supported_a : (p : Pair) (turn x y : ℕ) (s1 s2 : List ℕ) → (turn + 1) % 2 ≡ 0 → real.step (fixed p) (state p turn true x y) (state p (turn + 1) true x y) ≡ None
    → Well real p p.key_b (state p turn true x y) s1 → Well real p p.key_a (state p (turn + 1) true x y) s2
    → support_of real (last_chain p turn x y (marks_a s2 s1)) (verified_marks real (last_chain p turn x y (marks_a s2 s1))) ≡ Ok (turn + 1)
supported_a p turn x y s1 s2 whose step well_1 well_2 =
    simp (same-number (turn + 1), not-low turn, step, well_1, well_2, within-before 1 turn whose (omega arith), within 0 (turn + 1))

is-supported : (c : Chain) (turn : ℕ) → support_of real c (verified_marks real c) ≡ Ok turn → is_ok (supports real c) ≡ true
unfolding supports
is-supported c turn e = subst (λ (r : Result ℕ SupportFault). is_ok r ≡ true) (sym e) refl

newer-where : (a b c : Bool) → a ≡ true → c ≡ true → (a && (not b || c)) ≡ true
newer-where true true c e f = f
newer-where true false c e f = refl
newer-where false b c e f = e

older-where : (a c : Bool) → a ≡ true → c ≡ false → (a && (not a || c)) ≡ false
older-where true c e f = f
older-where false c e f = refl

goes-on : (n : ℕ) → nat_lt n (n + 1) ≡ true
goes-on n = grind (arith, nat_tests)

-- whatever the marks on them, it is newer than a chain that ends a turn before
pub newer_than : (p : Pair) (turn x y : ℕ) (marks mine : List Mark) (older : StateParts) → support_of real (last_chain p turn x y marks) (verified_marks real (last_chain p turn x y marks)) ≡ Ok (turn + 1)
    → is_newer real (fixed p) (marked_of (last_chain p turn x y marks)) (marked_of (chain p (older ∷ state p turn true x y ∷ []) mine)) ≡ true
newer_than p turn x y marks mine older e =
    newer-where (is_supported real (fixed p) (marked_of (last_chain p turn x y marks))) (is_supported real (fixed p) (marked_of (chain p (older ∷ state p turn true x y ∷ []) mine))) (nat_lt turn (turn + 1))
    (is-supported (last_chain p turn x y marks) (turn + 1) e) (goes-on turn)

pub not_newer : (p : Pair) (turn x y : ℕ) (marks : List Mark) → support_of real (last_chain p turn x y marks) (verified_marks real (last_chain p turn x y marks)) ≡ Ok (turn + 1)
    → is_newer real (fixed p) (marked_of (last_chain p turn x y marks)) (marked_of (last_chain p turn x y marks)) ≡ false
not_newer p turn x y marks e =
    older-where (is_supported real (fixed p) (marked_of (last_chain p turn x y marks))) (nat_lt (turn + 1) (turn + 1)) (is-supported (last_chain p turn x y marks) (turn + 1) e) (not-less (turn + 1))
