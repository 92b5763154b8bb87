use Rattle.fairness_laws.proofs.Ledger.Wanting.{end_wants_on}
use Rattle.fairness_laws.proofs.fair_laws.end_wants_on.Goals as goal

pub returns : goal.returns
returns c = end_wants_on
