use Rattle.std.proofs.Common.{length}
use Rattle.plan_share.proofs.funded.+is_funded_through.Given as goal

abbrev pub decreases-is_funded_through : goal.decreases-is_funded_through
decreases-is_funded_through l = length l.outcome.now
