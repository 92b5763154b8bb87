use Rattle.std.proofs.Common.{length}
use Rattle.funding_plans.proofs.pieces.+behind.Given as goal

abbrev pub decreases-behind : goal.decreases-behind
decreases-behind l = length l.piece.now
