use Rattle.fairness_laws.proofs.Ledger.Standing.{known_ledgers_keep}
use Rattle.fairness_laws.proofs.fair_laws.known_ledgers_keep.Goals as goal

pub returns : goal.returns
returns c = known_ledgers_keep
