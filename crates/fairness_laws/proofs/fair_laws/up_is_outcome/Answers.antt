use Rattle.fairness_laws.proofs.Ledger.Moving.{up_is_outcome}
use Rattle.fairness_laws.proofs.fair_laws.up_is_outcome.Goals as goal

pub returns : goal.returns
returns c = up_is_outcome
