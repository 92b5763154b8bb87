use Rattle.std.proofs.Common.{length}
use Rattle.support_rules.proofs.support.+turn_of_last.Given as goal

abbrev pub decreases-turn_of_last : goal.decreases-turn_of_last
decreases-turn_of_last l = length l.rest.now
