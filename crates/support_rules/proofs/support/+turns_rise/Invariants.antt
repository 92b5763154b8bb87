use Rattle.std.proofs.Common.{length}
use Rattle.support_rules.proofs.support.+turns_rise.Given as goal

abbrev pub decreases-turns_rise : goal.decreases-turns_rise
decreases-turns_rise l = length l.rest.now
