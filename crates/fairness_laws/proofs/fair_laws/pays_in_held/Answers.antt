use Rattle.fairness_laws.proofs.Paying.{pays_in_held}
use Rattle.fairness_laws.proofs.fair_laws.pays_in_held.Goals as goal

pub returns : goal.returns
returns c = pays_in_held
