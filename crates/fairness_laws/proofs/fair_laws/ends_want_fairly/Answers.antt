use Rattle.fairness_laws.proofs.EndPart.{ends_want_fairly}
use Rattle.fairness_laws.proofs.fair_laws.ends_want_fairly.Goals as goal

pub returns : goal.returns
returns c = ends_want_fairly
