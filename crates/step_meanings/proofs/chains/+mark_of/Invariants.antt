use Rattle.std.proofs.Common.{length}
use Rattle.step_meanings.proofs.chains.+mark_of.Given as goal

abbrev pub decreases-mark_of : goal.decreases-mark_of
decreases-mark_of l = length l.listed.now
