use Rattle.channel_node.proofs.Raced.{nodes-safe}
use Rattle.channel_node.proofs.race_node_laws.raced_nodes_are_safe.Goals as goal

pub returns : goal.returns
returns c = nodes-safe
