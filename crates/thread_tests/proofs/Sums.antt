-- The sum after one more addition.
use Rattle.std.proofs.Common.{◌≡◌, ℕ, ◌+◌, ◌%◌, ◌^◌, List, [], ◌∷◌, ◌++◌, refl}
use Rattle.thread_tests.specs.declared.counter.Addition.{Addition}
use Rattle.thread_tests.specs.Counter.{sum_after}

pub sum_after-push : (n : ℕ) (h : List Addition) (a : Addition) → sum_after n (h ++ a ∷ []) ≡ (sum_after n h + a.amount) % 2 ^ 64
sum_after-push n [] a = refl
sum_after-push n (x ∷ xs) a = sum_after-push ((n + x.amount) % 2 ^ 64) xs a
