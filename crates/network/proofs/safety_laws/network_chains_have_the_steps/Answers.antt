use Rattle.network.proofs.Real.{network-steps}
use Rattle.network.proofs.safety_laws.network_chains_have_the_steps.Goals as goal

pub returns : goal.returns
returns c adds fixed = network-steps _ _ (c.values_are_valid.ensures adds fixed)
