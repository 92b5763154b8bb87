use Rattle.network.proofs.Real.{network-safe}
use Rattle.network.proofs.models.outcomes_of_models_are_not_older.Goals as goal

pub returns : goal.returns
returns c = network-safe
