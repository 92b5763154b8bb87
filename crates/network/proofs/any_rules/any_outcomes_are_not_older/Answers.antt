use Rattle.network.proofs.Any.{any-safe}
use Rattle.network.proofs.any_rules.any_outcomes_are_not_older.Goals as goal

pub returns : goal.returns
returns c adds fixed = any-safe _ _ (c.values_are_valid.ensures adds fixed)
