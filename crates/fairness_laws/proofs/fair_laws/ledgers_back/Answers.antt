use Rattle.fairness_laws.proofs.Ledger.Standing.{ledgers_back}
use Rattle.fairness_laws.proofs.fair_laws.ledgers_back.Goals as goal

pub returns : goal.returns
returns c = ledgers_back
