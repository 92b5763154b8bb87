use Rattle.channel_node.proofs.Keys.{made_nodes_are_honest}
use Rattle.channel_node.proofs.node_laws.made_nodes_are_honest.Goals as goal

pub returns : goal.returns
returns c = made_nodes_are_honest
