use Rattle.std.proofs.Common.{length}
use Rattle.plan_share.proofs.amounts.+sum_up_to.Given as goal

abbrev pub decreases-sum_up_to : goal.decreases-sum_up_to
decreases-sum_up_to l = length l.items.now
