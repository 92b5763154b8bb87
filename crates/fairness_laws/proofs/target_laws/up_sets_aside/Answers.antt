use Rattle.fairness_laws.proofs.OneByOne.{up_is}
use Rattle.fairness_laws.proofs.target_laws.up_sets_aside.Goals as goal

pub returns : goal.returns
returns c k items apart differ fits = up_is k items apart differ fits
