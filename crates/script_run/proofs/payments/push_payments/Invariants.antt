use Rattle.std.proofs.Common.{◌≡◌, ◌++◌}
use Rattle.script_run.specs.Load.{drawn, payments}
use Rattle.script_run.proofs.payments.push_payments.Given as goal

abbrev pub invariant-loop-place : goal.invariant-loop-place
invariant-loop-place l = (l.steps ≡ l.fn.steps ++ payments l.seed l.place) × (l.number ≡ drawn l.seed l.place)
