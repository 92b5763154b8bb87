use Rattle.further_laws.proofs.Real.{raced-exits}
use Rattle.further_laws.proofs.models.raced_exits_of_models_pay.Goals as goal

pub returns : goal.returns
returns c = raced-exits
