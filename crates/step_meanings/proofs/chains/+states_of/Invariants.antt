use Rattle.std.proofs.Common.{length}
use Rattle.step_meanings.proofs.chains.+states_of.Given as goal

abbrev pub decreases-states_of : goal.decreases-states_of
decreases-states_of l = length l.listed.now
