use Rattle.node_guarantees.proofs.Commanding.{nodes_follow_commands}
use Rattle.node_guarantees.proofs.node_way_laws.nodes_follow_commands.Goals as goal

pub returns : goal.returns
returns c = nodes_follow_commands
