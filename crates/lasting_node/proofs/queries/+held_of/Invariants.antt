use Rattle.std.proofs.Common.{length}
use Rattle.lasting_node.proofs.queries.+held_of.Given as goal

abbrev pub decreases-held_of : goal.decreases-held_of
decreases-held_of l = length l.chains.now
