-- A counter's history.
use Rattle.std.specs.Prelude.{◌≡◌, ℕ, ◌+◌, ◌%◌, ◌^◌, List, [], ◌∷◌}
use Rattle.thread_tests.specs.declared.counter.Addition.{Addition}

-- the sum after these additions, from n on, at 64 bits
abbrev pub sum_after : ℕ → List Addition → ℕ
sum_after n [] = n
sum_after n (a ∷ rest) = sum_after ((n + a.amount) % 2 ^ 64) rest

-- the sum is what was added in all
abbrev pub StandsFor : ℕ → List Addition → Type 0
StandsFor n h = n ≡ sum_after 0 h

-- the addition of n after the history
abbrev pub addition_after : List Addition → ℕ → ℕ → ℕ → Addition
addition_after h number by n = record { number = number; by = by; amount = n; sum = (sum_after 0 h + n) % 2 ^ 64 }
