use Rattle.fairness_laws.proofs.Opening.Children.{children_open}
use Rattle.fairness_laws.proofs.fair_laws.children_open_with.Goals as goal

pub returns : goal.returns
returns c = children_open
