use Rattle.std.proofs.Common.{length}
use Rattle.plan_share.proofs.funded.+is_funded_among.Given as goal

abbrev pub decreases-is_funded_among : goal.decreases-is_funded_among
decreases-is_funded_among l = length l.left.now
