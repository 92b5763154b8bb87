use Rattle.further_laws.proofs.Real.{raced-safe}
use Rattle.further_laws.proofs.laws.raced_outcomes_are_not_older.Goals as goal

pub returns : goal.returns
returns c adds fixed = raced-safe _ _ (c.values_are_valid.ensures adds fixed)
