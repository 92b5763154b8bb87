use Rattle.further_laws.proofs.Real.{raced-safe}
use Rattle.further_laws.proofs.models.raced_outcomes_of_models_are_not_older.Goals as goal

pub returns : goal.returns
returns c = raced-safe
