use Rattle.network.proofs.Real.{network-steps}
use Rattle.network.proofs.models.chains_of_models_have_the_steps.Goals as goal

pub returns : goal.returns
returns c = network-steps
