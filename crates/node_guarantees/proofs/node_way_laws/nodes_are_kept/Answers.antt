use Rattle.node_guarantees.proofs.Kept.{nodes_are_kept}
use Rattle.node_guarantees.proofs.node_way_laws.nodes_are_kept.Goals as goal

pub returns : goal.returns
returns c = nodes_are_kept
