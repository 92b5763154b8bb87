use Rattle.network_node.proofs.Racing.{nodes-safe}
use Rattle.network_node.proofs.race_fairness_laws.racing_nodes_are_safe.Goals as goal

pub returns : goal.returns
returns c = nodes-safe
