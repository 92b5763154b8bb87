use Rattle.std.proofs.Common.{length}
use Rattle.node_decisions.proofs.closing.+standing_among.Given as goal

abbrev pub decreases-standing_among : goal.decreases-standing_among
decreases-standing_among l = length l.parts.now
