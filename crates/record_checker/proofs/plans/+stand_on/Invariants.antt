use Rattle.std.proofs.Common.{length}
use Rattle.record_checker.proofs.plans.+stand_on.Given as goal

abbrev pub decreases-stand_on : goal.decreases-stand_on
decreases-stand_on l = length l.all.now
