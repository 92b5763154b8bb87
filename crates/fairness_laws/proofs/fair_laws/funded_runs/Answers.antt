use Rattle.fairness_laws.proofs.Ledger.Wanting.{funded_runs}
use Rattle.fairness_laws.proofs.fair_laws.funded_runs.Goals as goal

pub returns : goal.returns
returns c = funded_runs
