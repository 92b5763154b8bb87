use Rattle.std.proofs.Common.{◌≡◌, ◌++◌, map, take, drop}
use Rattle.call_history.specs.Marked.{lowered}
use Rattle.call_history.proofs.answering.lower.Given as goal

abbrev pub invariant-loop-i : goal.invariant-loop-i
invariant-loop-i l = l.marks.items ≡ map (lowered l.count) (take l.i l.fn.marks.items) ++ drop l.i l.fn.marks.items
