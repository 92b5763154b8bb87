use Rattle.fairness_laws.proofs.Ledger.Wanting.{funded_unfinished}
use Rattle.fairness_laws.proofs.fair_laws.funded_unfinished.Goals as goal

pub returns : goal.returns
returns c = funded_unfinished
