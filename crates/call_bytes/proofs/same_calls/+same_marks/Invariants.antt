use Rattle.std.proofs.Common.{length}
use Rattle.call_bytes.proofs.same_calls.+same_marks.Given as goal

abbrev pub decreases-same_marks : goal.decreases-same_marks
decreases-same_marks l = length l.a.now
