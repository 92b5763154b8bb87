use Rattle.fairness_laws.proofs.Kept.{nodes_plan_fairly}
use Rattle.fairness_laws.proofs.fair_laws.nodes_plan_fairly.Goals as goal

pub returns : goal.returns
returns c = nodes_plan_fairly
