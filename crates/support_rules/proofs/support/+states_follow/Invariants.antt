use Rattle.std.proofs.Common.{length}
use Rattle.support_rules.proofs.support.+states_follow.Given as goal

abbrev pub decreases-states_follow : goal.decreases-states_follow
decreases-states_follow l = length l.rest.now
