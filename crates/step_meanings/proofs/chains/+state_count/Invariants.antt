use Rattle.std.proofs.Common.{length}
use Rattle.step_meanings.proofs.chains.+state_count.Given as goal

abbrev pub decreases-state_count : goal.decreases-state_count
decreases-state_count l = length l.listed.now
