use Rattle.std.proofs.Common.{length}
use Rattle.funding_plans.proofs.amounts.+has.Given as goal

abbrev pub decreases-has : goal.decreases-has
decreases-has l = length l.items.now
