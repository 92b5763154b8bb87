use Rattle.std.proofs.Common.{length}
use Rattle.node_decisions.proofs.live.+not_open_parts.Given as goal

abbrev pub decreases-not_open_parts : goal.decreases-not_open_parts
decreases-not_open_parts l = length l.parts.now
