use Rattle.further_laws.proofs.Real.{raced-in_time}
use Rattle.further_laws.proofs.laws.raced_watchers_are_in_time.Goals as goal

pub returns : goal.returns
returns c adds fixed = raced-in_time _ _ (c.values_are_valid.ensures adds fixed)
