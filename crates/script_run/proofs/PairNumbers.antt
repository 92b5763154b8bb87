-- Numbers, in the forms in which they come.
use Rattle.std.proofs.Common.{◌≡◌, ℕ, ◌+◌, ◌-◌, ◌%◌, ◌<◌, ◌≤◌, true, false, arith}
use Rattle.std.specs.Prelude.{◌==◌, ◌^◌, nat_lt, nat_le}
use Rattle.std.proofs.lemmas.Bool.Decides.{nat_tests}

pub same-number : (n : ℕ) → (n == n) ≡ true
same-number n = grind (arith, nat_tests)

pub not-less : (n : ℕ) → nat_lt n n ≡ false
not-less n = grind (arith, nat_tests)

pub zeroless : (n : ℕ) → 0 < n → (n == 0) ≡ false
zeroless n h = grind (arith, nat_tests)

pub is-below : (a b : ℕ) → a < b → nat_lt a b ≡ true
is-below a b h = grind (arith, nat_tests)

pub one-less : (n : ℕ) → nat_le 3 n ≡ true → nat_le 1 n ≡ true
one-less n h = grind (arith, nat_tests)

pub later : (n : ℕ) → nat_le 3 n ≡ true → nat_le 3 (n + 1) ≡ true
later n h = grind (arith, nat_tests)

pub early-one : (n : ℕ) → n + 3 < 2 ^ 48 → nat_lt (n + 1) (2 ^ 48) ≡ true
early-one n h = grind (arith, nat_tests)

pub early-two : (n : ℕ) → n + 3 < 2 ^ 48 → nat_lt (n + 1 + 1) (2 ^ 48) ≡ true
early-two n h = grind (arith, nat_tests)

pub below-one : (n : ℕ) → n + 3 < 2 ^ 48 → n + 1 < 2 ^ 48
below-one n h = omega arith

pub below-two : (n : ℕ) → n + 3 < 2 ^ 48 → n + 1 + 1 < 2 ^ 48
below-two n h = omega arith

pub odd-then : (n : ℕ) → (n + 1) % 2 ≡ 0 → (n + 1 + 1) % 2 ≡ 1
odd-then n h = omega arith

pub even-then : (n : ℕ) → (n + 1) % 2 ≡ 1 → (n + 1 + 1) % 2 ≡ 0
even-then n h = omega arith

pub from-zero : (n : ℕ) → 0 + n ≡ n
from-zero n = omega arith

pub zeros : (n : ℕ) → 0 + n + 0 + 0 ≡ n
zeros n = omega arith

pub zeros-more : (n : ℕ) → 0 + n + 0 + 0 + 0 ≡ n
zeros-more n = omega arith

pub no-more : (n : ℕ) → n ≡ n + 0
no-more n = omega arith

pub sum-a : (x y amount total : ℕ) → amount ≤ x → x + y ≡ total → x - amount + (y + amount) ≡ total
sum-a x y amount total le sum = omega arith

pub sum-b : (x y amount total : ℕ) → amount ≤ y → x + y ≡ total → x + amount + (y - amount) ≡ total
sum-b x y amount total le sum = omega arith
