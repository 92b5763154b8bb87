-- Sums of the first amounts, one more.
use Rattle.std.proofs.Common.{◌≡◌, ℕ, ◌+◌, refl, add-one}
use Rattle.channel_values.specs.Amounts.{before}

pub before_more : (rest : ℕ → ℕ) (i : ℕ) → before rest (i + 1) ≡ before rest i + rest i
before_more rest i = rw add-one refl
