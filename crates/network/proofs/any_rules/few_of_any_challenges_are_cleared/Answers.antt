use Rattle.network.proofs.Any.{any-cleared}
use Rattle.network.proofs.any_rules.few_of_any_challenges_are_cleared.Goals as goal

pub returns : goal.returns
returns c adds fixed = any-cleared _ _ (c.values_are_valid.ensures adds fixed)
