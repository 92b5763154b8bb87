use Rattle.channel_node.proofs.Calling.{standing_nodes_are_honest}
use Rattle.channel_node.proofs.node_laws.standing_nodes_are_honest.Goals as goal

pub returns : goal.returns
returns c = standing_nodes_are_honest
