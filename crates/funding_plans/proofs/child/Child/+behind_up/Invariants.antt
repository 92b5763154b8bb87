use Rattle.std.proofs.Common.{length}
use Rattle.funding_plans.proofs.child.Child.+behind_up.Given as goal

abbrev pub decreases-behind_up : goal.decreases-behind_up
decreases-behind_up l = length l.items.now
