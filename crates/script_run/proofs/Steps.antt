-- The steps of the channel are steps of the network's rules.
use Rattle.std.proofs.Common.{◌≡◌, ℕ, ◌+◌, ◌-◌, ◌%◌, ◌<◌, ◌≤◌, Bool, true, false, arith}
use Rattle.std.specs.Prelude.{◌==◌, nat_lt, nat_le, None}
use Rattle.std.specs.Str.{bytes_eq}
use Rattle.std.proofs.lemmas.Bool.Decides.{nat_tests}
use Rattle.call_history.proofs.Names.{bytes_eq_self}
use Rattle.channel_values.specs.Digests.{name_of_person}
use Rattle.support_rules.specs.Rules.{app_fault}
use Rattle.support_rules.specs.Real.{real}
use Rattle.support_rules.specs.Steps.{step_fault}
use Rattle.fairness_laws.proofs.Finding.{flips}
use Rattle.script_run.proofs.PairNumbers.{same-number}
use Rattle.script_run.specs.Pair.{state}
use Rattle.script_run.specs.TwoPeople.{Pair, fixed}
use Rattle.script_run.proofs.Paying.{CanPay}

past : (turn : ℕ) → nat_le 3 turn ≡ true → nat_lt (turn + 1) 4 ≡ false
past turn h = grind (arith, nat_tests)

falls : (x amount : ℕ) → nat_lt x (x - amount) ≡ false
falls x amount = grind (arith, nat_tests)

rises : (y amount : ℕ) → nat_lt (y + amount) y ≡ false
rises y amount = grind (arith, nat_tests)

total-a : (x y amount : ℕ) → amount ≤ x → (0 + x + y == 0 + (x - amount) + (y + amount)) ≡ true
total-a x y amount le = grind (arith, nat_tests)

total-b : (x y amount : ℕ) → amount ≤ y → (0 + x + y == 0 + (x + amount) + (y - amount)) ≡ true
total-b x y amount le = grind (arith, nat_tests)

pub pays_first : (p : Pair) → bytes_eq (name_of_person p.key_a) (name_of_person p.key_b) ≡ false → (turn x y amount : ℕ) → nat_le 3 turn ≡ true → amount ≤ x → (turn + 1) % 2 ≡ 0
    → real.step (fixed p) (state p turn false x y) (state p (turn + 1) false (x - amount) (y + amount)) ≡ None
unfolding step_fault app_fault
pays_first p apart turn x y amount late enough whose =
    simp (past turn late, whose, bytes_eq_self, apart, flips (name_of_person p.key_a) (name_of_person p.key_b) apart, falls x amount, rises y amount, total-a x y amount enough, same-number p.asset)

pub pays_second : (p : Pair) → bytes_eq (name_of_person p.key_a) (name_of_person p.key_b) ≡ false → (turn x y amount : ℕ) → nat_le 3 turn ≡ true → amount ≤ y → (turn + 1) % 2 ≡ 1
    → real.step (fixed p) (state p turn false x y) (state p (turn + 1) false (x + amount) (y - amount)) ≡ None
unfolding step_fault app_fault
pays_second p apart turn x y amount late enough whose =
    simp (past turn late, whose, bytes_eq_self, apart, flips (name_of_person p.key_a) (name_of_person p.key_b) apart, falls y amount, rises x amount, total-b x y amount enough, same-number p.asset)

pub can_pay : (p : Pair) → bytes_eq (name_of_person p.key_a) (name_of_person p.key_b) ≡ false → CanPay p
can_pay p apart = record { by_first = pays_first p apart; by_second = pays_second p apart }

-- a final state repeats the one before
pub ends : (p : Pair) (final : Bool) (turn x y : ℕ) → nat_le 3 turn ≡ true → real.step (fixed p) (state p turn final x y) (state p (turn + 1) true x y) ≡ None
unfolding step_fault
ends p true turn x y late = simp (past turn late, bytes_eq_self)
ends p false turn x y late = simp (past turn late, bytes_eq_self)

-- the states of the opening repeat each other
set-up : (turn : ℕ) → turn < 3 → nat_lt (turn + 1) 4 ≡ true
set-up turn h = grind (arith, nat_tests)

pub repeats : (p : Pair) (turn x y : ℕ) → turn < 3 → real.step (fixed p) (state p turn false x y) (state p (turn + 1) false x y) ≡ None
unfolding step_fault
repeats p turn x y few = simp (set-up turn few, bytes_eq_self)
