use Rattle.std.proofs.Common.{length}
use Rattle.plan_share.proofs.page.Page.+worth.Given as goal

abbrev pub decreases-worth : goal.decreases-worth
decreases-worth l = length l.parts.now
