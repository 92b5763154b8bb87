use Rattle.std.proofs.Common.{take}
use Rattle.std.specs.List.{AllByRecursion}
use Rattle.call_history.specs.Same.{HasValidParts}
use Rattle.channel_safety.proofs.validity.calls_are_valid.Given as goal

abbrev pub invariant-loop-call : goal.invariant-loop-call
invariant-loop-call l = AllByRecursion HasValidParts (take l.call-index l.calls)
