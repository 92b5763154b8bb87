use Rattle.fairness_laws.proofs.MiddlePart.{middles_want_fairly}
use Rattle.fairness_laws.proofs.fair_laws.middles_want_fairly.Goals as goal

pub returns : goal.returns
returns c = middles_want_fairly
