use Rattle.std.proofs.Common.{length}
use Rattle.plan_share.proofs.endings.+outcome_in.Given as goal

abbrev pub decreases-outcome_in : goal.decreases-outcome_in
decreases-outcome_in l = length l.endings.now
