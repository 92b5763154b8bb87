use Rattle.std.proofs.Common.{length}
use Rattle.plan_share.proofs.funded.+is_funded_at_each.Given as goal

abbrev pub decreases-is_funded_at_each : goal.decreases-is_funded_at_each
decreases-is_funded_at_each l = length l.left.now
