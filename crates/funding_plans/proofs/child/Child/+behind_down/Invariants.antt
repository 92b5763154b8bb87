use Rattle.std.proofs.Common.{length}
use Rattle.funding_plans.proofs.child.Child.+behind_down.Given as goal

abbrev pub decreases-behind_down : goal.decreases-behind_down
decreases-behind_down l = length l.items.now
