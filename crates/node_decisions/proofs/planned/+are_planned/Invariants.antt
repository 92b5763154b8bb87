use Rattle.std.proofs.Common.{length}
use Rattle.node_decisions.proofs.planned.+are_planned.Given as goal

abbrev pub decreases-are_planned : goal.decreases-are_planned
decreases-are_planned l = length l.names.now
