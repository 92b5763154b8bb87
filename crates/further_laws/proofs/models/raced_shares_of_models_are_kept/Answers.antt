use Rattle.further_laws.proofs.Real.{raced-shares}
use Rattle.further_laws.proofs.models.raced_shares_of_models_are_kept.Goals as goal

pub returns : goal.returns
returns c = raced-shares
