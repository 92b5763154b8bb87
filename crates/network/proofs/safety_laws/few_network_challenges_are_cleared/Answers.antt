use Rattle.network.proofs.Real.{network-cleared}
use Rattle.network.proofs.safety_laws.few_network_challenges_are_cleared.Goals as goal

pub returns : goal.returns
returns c adds fixed = network-cleared _ _ (c.values_are_valid.ensures adds fixed)
