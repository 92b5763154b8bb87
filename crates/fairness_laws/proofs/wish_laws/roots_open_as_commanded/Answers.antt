use Rattle.fairness_laws.proofs.Openings.{open_as_commanded}
use Rattle.fairness_laws.proofs.wish_laws.roots_open_as_commanded.Goals as goal

pub returns : goal.returns
returns c = open_as_commanded
