use Rattle.std.proofs.Common.{vec_len}
use Rattle.run_picture.proofs.receivers.advance.Given as goal

abbrev pub decreases-loop-last : goal.decreases-loop-last
decreases-loop-last l = vec_len l.choices
