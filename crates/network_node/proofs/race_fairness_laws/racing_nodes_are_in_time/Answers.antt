use Rattle.network_node.proofs.Racing.{nodes-in_time}
use Rattle.network_node.proofs.race_fairness_laws.racing_nodes_are_in_time.Goals as goal

pub returns : goal.returns
returns c = nodes-in_time
