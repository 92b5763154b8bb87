use Rattle.std.proofs.Common.{length}
use Rattle.stage_tables.proofs.asked.+unfinished_on.Given as goal

abbrev pub decreases-unfinished_on : goal.decreases-unfinished_on
decreases-unfinished_on l = length l.parts.now
