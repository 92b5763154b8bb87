use Rattle.further_laws.proofs.Real.{raced-leavers}
use Rattle.further_laws.proofs.laws.raced_leavers_are_paid.Goals as goal

pub returns : goal.returns
returns c adds fixed = raced-leavers _ _ (c.values_are_valid.ensures adds fixed)
