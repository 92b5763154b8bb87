use Rattle.fairness_laws.proofs.Leaving.{wanting_plans_leave}
use Rattle.fairness_laws.proofs.fair_laws.wanting_plans_leave.Goals as goal

pub returns : goal.returns
returns c = wanting_plans_leave
