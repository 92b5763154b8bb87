use Rattle.std.proofs.Common.{length}
use Rattle.node_decisions.proofs.unfinished.+unfinished_among.Given as goal

abbrev pub decreases-unfinished_among : goal.decreases-unfinished_among
decreases-unfinished_among l = length l.parts.now
