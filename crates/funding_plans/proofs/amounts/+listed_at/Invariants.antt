use Rattle.std.proofs.Common.{length}
use Rattle.funding_plans.proofs.amounts.+listed_at.Given as goal

abbrev pub decreases-listed_at : goal.decreases-listed_at
decreases-listed_at l = length l.list.now
