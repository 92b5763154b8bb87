use Rattle.fairness_laws.proofs.Ledger.Moving.{down_is_outcome}
use Rattle.fairness_laws.proofs.fair_laws.down_is_outcome.Goals as goal

pub returns : goal.returns
returns c = down_is_outcome
