use Rattle.std.proofs.Common.{◌≡◌, ◌++◌}
use Rattle.hop_script.specs.Hop.{payments}
use Rattle.hop_script.proofs.paying.push_payments.Given as goal

abbrev pub invariant-loop : goal.invariant-loop
invariant-loop l = l.steps ≡ l.fn.steps ++ payments l.counter
