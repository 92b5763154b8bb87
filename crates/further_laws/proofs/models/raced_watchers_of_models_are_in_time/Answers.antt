use Rattle.further_laws.proofs.Real.{raced-in_time}
use Rattle.further_laws.proofs.models.raced_watchers_of_models_are_in_time.Goals as goal

pub returns : goal.returns
returns c = raced-in_time
