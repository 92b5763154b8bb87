use Rattle.std.proofs.Common.{length}
use Rattle.plan_share.proofs.endings.+counts_in.Given as goal

abbrev pub decreases-counts_in : goal.decreases-counts_in
decreases-counts_in l = length l.endings.now
