use Rattle.further_laws.proofs.Real.{raced-leavers}
use Rattle.further_laws.proofs.models.raced_leavers_of_models_are_paid.Goals as goal

pub returns : goal.returns
returns c = raced-leavers
