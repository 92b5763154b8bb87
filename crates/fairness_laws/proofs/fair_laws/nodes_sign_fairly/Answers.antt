use Rattle.fairness_laws.proofs.Kept.{nodes_sign_fairly}
use Rattle.fairness_laws.proofs.fair_laws.nodes_sign_fairly.Goals as goal

pub returns : goal.returns
returns c = nodes_sign_fairly
