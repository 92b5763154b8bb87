use Rattle.std.proofs.Common.{◌-◌, ◌≤◌, length, take}
use Rattle.lasting_lines.proofs.Parts.{IsWhole}
use Rattle.lasting_lines.proofs.batches.split_batch.Given as goal

abbrev pub invariant-loop-i : goal.invariant-loop-i
invariant-loop-i l = record { inside : l.i ≤ length l.batch; none : IsWhole (take l.i l.batch) }

abbrev pub decreases-loop-i : goal.decreases-loop-i
decreases-loop-i l = length l.batch - l.i
