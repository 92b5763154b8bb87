use Rattle.fairness_laws.proofs.Children.{children_want_fairly}
use Rattle.fairness_laws.proofs.fair_laws.children_want_fairly.Goals as goal

pub returns : goal.returns
returns c = children_want_fairly
