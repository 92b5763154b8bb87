use Rattle.std.proofs.Common.{length}
use Rattle.node_decisions.proofs.planned.+none_planned.Given as goal

abbrev pub decreases-none_planned : goal.decreases-none_planned
decreases-none_planned l = length l.names.now
