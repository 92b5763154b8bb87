use Rattle.std.proofs.Common.{length}
use Rattle.lasting_node.proofs.reserves.+channel_count.Given as goal

abbrev pub decreases-channel_count : goal.decreases-channel_count
decreases-channel_count l = length l.parts.now
