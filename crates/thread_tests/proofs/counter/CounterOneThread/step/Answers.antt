use Rattle.std.proofs.Common.{ℕ, ◌+◌, ◌%◌, sym, ap, ◌∙◌}
use Rattle.thread_tests.proofs.Sums.{sum_after-push}
use Rattle.thread_tests.proofs.counter.CounterOneThread.step.Goals as goal

pub returns-clause-stands : goal.returns-clause-stands
returns-clause-stands c h is = ap (λ (n : ℕ). (n + c.args.call) % 18446744073709551616) is ∙ sym (sum_after-push 0 h _)
