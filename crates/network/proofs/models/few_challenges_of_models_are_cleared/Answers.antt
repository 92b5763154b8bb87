use Rattle.network.proofs.Real.{network-cleared}
use Rattle.network.proofs.models.few_challenges_of_models_are_cleared.Goals as goal

pub returns : goal.returns
returns c = network-cleared
