use Rattle.fairness_laws.proofs.Ledger.Wanting.{funded_wants}
use Rattle.fairness_laws.proofs.fair_laws.funded_wants.Goals as goal

pub returns : goal.returns
returns c = funded_wants
