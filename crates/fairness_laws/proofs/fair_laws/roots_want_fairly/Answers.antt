use Rattle.fairness_laws.proofs.Roots.{roots_want_fairly}
use Rattle.fairness_laws.proofs.fair_laws.roots_want_fairly.Goals as goal

pub returns : goal.returns
returns c = roots_want_fairly
