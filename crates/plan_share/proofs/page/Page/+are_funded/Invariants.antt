use Rattle.std.proofs.Common.{length}
use Rattle.plan_share.proofs.page.Page.+are_funded.Given as goal

abbrev pub decreases-are_funded : goal.decreases-are_funded
decreases-are_funded l = length l.parts.now
