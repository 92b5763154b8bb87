use Rattle.std.proofs.Common.{◌≡◌, drop}
use Rattle.call_history.proofs.answering.forget.Given as goal

abbrev pub invariant-loop : goal.invariant-loop
invariant-loop l = l.states.items ≡ drop l.counter l.fn.states.items
