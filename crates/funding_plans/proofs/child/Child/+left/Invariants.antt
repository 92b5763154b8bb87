use Rattle.std.proofs.Common.{length}
use Rattle.funding_plans.proofs.child.Child.+left.Given as goal

abbrev pub decreases-left : goal.decreases-left
decreases-left l = length l.items.now
