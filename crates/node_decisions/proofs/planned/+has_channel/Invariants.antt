use Rattle.std.proofs.Common.{length}
use Rattle.node_decisions.proofs.planned.+has_channel.Given as goal

abbrev pub decreases-has_channel : goal.decreases-has_channel
decreases-has_channel l = length l.parts.now
