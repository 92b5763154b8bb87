use Rattle.std.proofs.Common.{length}
use Rattle.funding_plans.proofs.amounts.+amt.Given as goal

abbrev pub decreases-amt : goal.decreases-amt
decreases-amt l = length l.items.now
