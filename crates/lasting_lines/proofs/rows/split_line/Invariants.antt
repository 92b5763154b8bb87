use Rattle.std.proofs.Common.{◌-◌, ◌≤◌, length, take}
use Rattle.lasting_lines.specs.Batches.{IsPart}
use Rattle.lasting_lines.proofs.rows.split_line.Given as goal

abbrev pub invariant-loop-i : goal.invariant-loop-i
invariant-loop-i l = record { inside : l.i ≤ length l.bytes; none : IsPart (take l.i l.bytes) }

abbrev pub decreases-loop-i : goal.decreases-loop-i
decreases-loop-i l = length l.bytes - l.i
