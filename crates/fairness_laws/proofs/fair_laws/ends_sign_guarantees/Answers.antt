use Rattle.fairness_laws.proofs.Opening.Guarantors.{ends_sign}
use Rattle.fairness_laws.proofs.fair_laws.ends_sign_guarantees.Goals as goal

pub returns : goal.returns
returns c = ends_sign
