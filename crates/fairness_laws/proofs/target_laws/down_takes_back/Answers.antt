use Rattle.fairness_laws.proofs.Back.{down_is}
use Rattle.fairness_laws.proofs.target_laws.down_takes_back.Goals as goal

pub returns : goal.returns
returns c k items apart differ fits = down_is k items apart differ fits
