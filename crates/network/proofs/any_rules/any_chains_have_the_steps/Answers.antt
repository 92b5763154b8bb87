use Rattle.network.proofs.Any.{any-steps}
use Rattle.network.proofs.any_rules.any_chains_have_the_steps.Goals as goal

pub returns : goal.returns
returns c adds fixed = any-steps _ _ (c.values_are_valid.ensures adds fixed)
