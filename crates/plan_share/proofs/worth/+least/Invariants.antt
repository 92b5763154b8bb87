use Rattle.std.proofs.Common.{length}
use Rattle.plan_share.proofs.worth.+least.Given as goal

abbrev pub decreases-least : goal.decreases-least
decreases-least l = length l.left.now
