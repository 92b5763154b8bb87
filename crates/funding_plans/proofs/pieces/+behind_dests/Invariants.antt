use Rattle.std.proofs.Common.{length}
use Rattle.funding_plans.proofs.pieces.+behind_dests.Given as goal

abbrev pub decreases-behind_dests : goal.decreases-behind_dests
decreases-behind_dests l = length l.dests.now
