use Rattle.fairness_laws.proofs.Opening.Guarantors.{middles_sign}
use Rattle.fairness_laws.proofs.fair_laws.middles_sign_guarantees.Goals as goal

pub returns : goal.returns
returns c = middles_sign
