use Rattle.network_node.proofs.Racing.{nodes-keep}
use Rattle.network_node.proofs.race_fairness_laws.racing_nodes_keep_shares.Goals as goal

pub returns : goal.returns
returns c = nodes-keep
