use Rattle.network_node.proofs.Racing.{plans-kept}
use Rattle.network_node.proofs.race_fairness_laws.raced_plans_keep_shares.Goals as goal

pub returns : goal.returns
returns c = plans-kept
