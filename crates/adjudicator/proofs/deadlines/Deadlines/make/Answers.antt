use Rattle.adjudicator.proofs.Ordered.{nothing_ordered}
use Rattle.adjudicator.proofs.deadlines.Deadlines.make.Goals as goal

pub invariant_of-result : goal.invariant_of-result
invariant_of-result c = nothing_ordered c.new.result.items c.new.ensures.items
