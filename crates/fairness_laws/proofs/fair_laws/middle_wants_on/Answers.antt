use Rattle.fairness_laws.proofs.Ledger.Wanting.{middle_wants_on}
use Rattle.fairness_laws.proofs.fair_laws.middle_wants_on.Goals as goal

pub returns : goal.returns
returns c = middle_wants_on
