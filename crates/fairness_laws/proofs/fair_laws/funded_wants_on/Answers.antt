use Rattle.fairness_laws.proofs.Ledger.Wanting.{funded_wants_on}
use Rattle.fairness_laws.proofs.fair_laws.funded_wants_on.Goals as goal

pub returns : goal.returns
returns c = funded_wants_on
