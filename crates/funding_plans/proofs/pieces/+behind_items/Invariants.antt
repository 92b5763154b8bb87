use Rattle.std.proofs.Common.{length}
use Rattle.funding_plans.proofs.pieces.+behind_items.Given as goal

abbrev pub decreases-behind_items : goal.decreases-behind_items
decreases-behind_items l = length l.items.now
