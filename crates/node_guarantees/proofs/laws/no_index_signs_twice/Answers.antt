use Rattle.node_guarantees.proofs.Once.{signs_once}
use Rattle.node_guarantees.proofs.laws.no_index_signs_twice.Goals as goal

pub returns : goal.returns
returns c = signs_once
