use Rattle.std.proofs.Common.{length}
use Rattle.step_meanings.proofs.chains.+listed.Given as goal

abbrev pub decreases-listed : goal.decreases-listed
decreases-listed l = length l.names.now
