-- What tests and their answers mean.
use Rattle.std.proofs.Common.{◌≡◌, ℕ, ◌<◌, ◌≤◌, Bool, true, false, cond, ◌&&◌, ◌||◌, not, ◌⊎◌, refl, arith}
use Rattle.std.specs.Prelude.{nat_lt, nat_le, ◌==◌, Option, Some, None, Result, Ok, Err, is_ok, is_none}
use Rattle.std.proofs.lemmas.Bool.Decides.{nat_tests}

pub cond-false : {A : Type 0} (b : Bool) (x y : A) → b ≡ false → cond b x y ≡ y
cond-false true x y h = cc
cond-false false x y h = refl

pub cond-true : {A : Type 0} (b : Bool) (x y : A) → b ≡ true → cond b x y ≡ x
cond-true true x y h = refl
cond-true false x y h = cc

pub not-false : (b : Bool) → not b ≡ false → b ≡ true
not-false true h = refl
not-false false h = cc

pub and-left : (a b : Bool) → (a && b) ≡ true → a ≡ true
and-left true b h = refl
and-left false b h = h

pub and-right : (a b : Bool) → (a && b) ≡ true → b ≡ true
and-right true b h = h
and-right false b h = cc

pub and-both : (a b : Bool) → a ≡ true → b ≡ true → (a && b) ≡ true
and-both true b x y = y
and-both false b x y = cc

pub or-right : (a b : Bool) → (a || b) ≡ true → a ≡ false → b ≡ true
or-right true b h k = cc
or-right false b h k = h

pub clash : (b : Bool) → b ≡ true → b ≡ false → ⊥
clash b t n = cc

pub le_or_lt : (a b : ℕ) → (a ≤ b) ⊎ (b < a)
le_or_lt a b = grind arith

pub lt-false : (a b : ℕ) → nat_lt a b ≡ false → b ≤ a
lt-false a b h = grind (arith, nat_tests)

pub lt-true : (a b : ℕ) → nat_lt a b ≡ true → a < b
lt-true a b h = grind (arith, nat_tests)

pub le-false : (a b : ℕ) → nat_le a b ≡ false → b < a
le-false a b h = grind (arith, nat_tests)

pub le-true : (a b : ℕ) → nat_le a b ≡ true → a ≤ b
le-true a b h = grind (arith, nat_tests)

pub true-le : (a b : ℕ) → a ≤ b → nat_le a b ≡ true
true-le a b h = grind (arith, nat_tests)

pub false-le : (a b : ℕ) → b < a → nat_le a b ≡ false
false-le a b h = grind (arith, nat_tests)

pub eqb-true : (a b : ℕ) → (a == b) ≡ true → a ≡ b
eqb-true a b h = grind (arith, nat_tests)

pub eqb-false : (a b : ℕ) → (a ≡ b → ⊥) → (a == b) ≡ false
eqb-false a b h = grind (arith, nat_tests)

pub some-eq : {A : Type 0} (x y : A) → Some x ≡ Some y → x ≡ y
some-eq x y e = cc

pub none-eq : {A : Type 0} (x : A) → None ≡ Some x → ⊥
none-eq x e = cc

pub is-none : {A : Type 0} (o : Option A) → is_none o ≡ true → o ≡ None
is-none None h = refl
is-none (Some x) h = cc

pub ok-is : {A E : Type 0} (x : Result A E) → is_ok x ≡ true → (v : A) × (x ≡ Ok v)
ok-is (Ok v) h = (v, refl)
ok-is (Err e) h = cc
