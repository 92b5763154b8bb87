use Rattle.fairness_laws.proofs.Ledger.AtPlaces.{steps_keep}
use Rattle.fairness_laws.proofs.fair_laws.steps_keep.Goals as goal

pub returns : goal.returns
returns c = steps_keep
