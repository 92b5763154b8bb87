use Rattle.channel_node.proofs.Raced.{nodes-in_time}
use Rattle.channel_node.proofs.race_node_laws.raced_nodes_are_in_time.Goals as goal

pub returns : goal.returns
returns c = nodes-in_time
