use Rattle.std.proofs.Common.{length}
use Rattle.funding_plans.proofs.child.Child.+behind_all.Given as goal

abbrev pub decreases-behind_all : goal.decreases-behind_all
decreases-behind_all l = length l.assets.now
