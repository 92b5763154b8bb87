use Rattle.std.proofs.Common.{length}
use Rattle.plan_share.proofs.amounts.+afforded.Given as goal

abbrev pub decreases-afforded : goal.decreases-afforded
decreases-afforded l = length l.items.now
