use Rattle.further_laws.proofs.Real.{raced-exits}
use Rattle.further_laws.proofs.laws.raced_exits_pay.Goals as goal

pub returns : goal.returns
returns c adds fixed = raced-exits _ _ (c.values_are_valid.ensures adds fixed)
