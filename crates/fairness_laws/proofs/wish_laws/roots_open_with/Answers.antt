use Rattle.fairness_laws.proofs.RootOpening.{roots_open_with}
use Rattle.fairness_laws.proofs.wish_laws.roots_open_with.Goals as goal

pub returns : goal.returns
returns c = roots_open_with
