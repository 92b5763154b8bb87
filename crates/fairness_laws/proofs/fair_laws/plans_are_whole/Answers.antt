use Rattle.fairness_laws.proofs.Plan.Plans.{plans_are_whole}
use Rattle.fairness_laws.proofs.fair_laws.plans_are_whole.Goals as goal

pub returns : goal.returns
returns c = plans_are_whole
