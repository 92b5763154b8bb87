use Rattle.channel_node.proofs.Calling.{lost_nodes_stand}
use Rattle.channel_node.proofs.node_laws.lost_nodes_stand.Goals as goal

pub returns : goal.returns
returns c = lost_nodes_stand
