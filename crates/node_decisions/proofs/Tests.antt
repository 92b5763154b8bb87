-- What tests and lines of a table mean.
use Rattle.std.proofs.Common.{◌≡◌, Bool, true, false, refl}
use Rattle.std.specs.Prelude.{Option, Some, None, not, ◌&&◌, ◌||◌}
use Rattle.channel_values.specs.Words.{fault_if, ◌⊳◌}

-- ---- tests

pub left_true : (a b : Bool) → (a && b) ≡ true → a ≡ true
left_true true b e = refl
left_true false b e = absurd cc

pub right_true : (a b : Bool) → (a && b) ≡ true → b ≡ true
right_true true b e = e
right_true false b e = absurd cc

pub left_false : (a b : Bool) → (a || b) ≡ false → a ≡ false
left_false true b e = absurd cc
left_false false b e = refl

pub right_false : (a b : Bool) → (a || b) ≡ false → b ≡ false
right_false true b e = absurd cc
right_false false b e = e

pub not_false : (b : Bool) → not b ≡ false → b ≡ true
not_false true e = refl
not_false false e = absurd cc

pub not_true : (b : Bool) → not b ≡ true → b ≡ false
not_true true e = absurd cc
not_true false e = refl

-- ---- lines

pub first_none : {E : Type 0} (a b : Option E) → (a ⊳ b) ≡ None → a ≡ None
first_none None b e = refl
first_none (Some x) b e = absurd cc

pub others_none : {E : Type 0} (a b : Option E) → (a ⊳ b) ≡ None → b ≡ None
others_none None b e = e
others_none (Some x) b e = absurd cc

pub not_broken : {E : Type 0} (broken : Bool) (fault : E) → fault_if broken fault ≡ None → broken ≡ false
not_broken true fault e = absurd cc
not_broken false fault e = refl
