use Rattle.std.proofs.Common.{length}
use Rattle.node_decisions.proofs.live.+not_open_among.Given as goal

abbrev pub decreases-not_open_among : goal.decreases-not_open_among
decreases-not_open_among l = length l.channels.now
