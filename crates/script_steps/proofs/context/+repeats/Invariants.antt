use Rattle.std.proofs.Common.{length}
use Rattle.script_steps.proofs.context.+repeats.Given as goal

abbrev pub decreases-repeats : goal.decreases-repeats
decreases-repeats l = length l.names.now
