use Rattle.fairness_laws.proofs.Plans.{wanting_plans_fairly}
use Rattle.fairness_laws.proofs.fair_laws.wanting_plans_fairly.Goals as goal

pub returns : goal.returns
returns c = wanting_plans_fairly
