use Rattle.further_laws.proofs.Real.{raced-shares}
use Rattle.further_laws.proofs.laws.raced_shares_are_kept.Goals as goal

pub returns : goal.returns
returns c adds fixed = raced-shares _ _ (c.values_are_valid.ensures adds fixed)
