use Rattle.network.proofs.Real.{network-safe}
use Rattle.network.proofs.safety_laws.network_outcomes_are_not_older.Goals as goal

pub returns : goal.returns
returns c adds fixed = network-safe _ _ (c.values_are_valid.ensures adds fixed)
