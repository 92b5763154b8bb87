use Rattle.std.proofs.Common.{◌≡◌, take}
use Rattle.call_history.specs.Marked.{lowest}
use Rattle.call_history.proofs.answering.lowest_place.Given as goal

abbrev pub invariant-loop-mark : goal.invariant-loop-mark
invariant-loop-mark l = l.least ≡ lowest l.place (take l.mark-index l.marks)
