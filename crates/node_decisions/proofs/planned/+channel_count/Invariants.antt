use Rattle.std.proofs.Common.{length}
use Rattle.node_decisions.proofs.planned.+channel_count.Given as goal

abbrev pub decreases-channel_count : goal.decreases-channel_count
decreases-channel_count l = length l.parts.now
