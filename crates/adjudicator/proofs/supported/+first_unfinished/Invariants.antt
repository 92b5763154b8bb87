use Rattle.std.proofs.Common.{length}
use Rattle.adjudicator.proofs.supported.+first_unfinished.Given as goal

abbrev pub decreases-first_unfinished : goal.decreases-first_unfinished
decreases-first_unfinished l = length l.states.now
