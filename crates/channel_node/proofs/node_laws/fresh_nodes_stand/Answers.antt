use Rattle.channel_node.proofs.Calling.{fresh_nodes_stand}
use Rattle.channel_node.proofs.node_laws.fresh_nodes_stand.Goals as goal

pub returns : goal.returns
returns c = fresh_nodes_stand
