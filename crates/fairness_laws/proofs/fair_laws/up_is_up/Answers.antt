use Rattle.fairness_laws.proofs.Ledger.Moving.{up_is_up}
use Rattle.fairness_laws.proofs.fair_laws.up_is_up.Goals as goal

pub returns : goal.returns
returns c = up_is_up
