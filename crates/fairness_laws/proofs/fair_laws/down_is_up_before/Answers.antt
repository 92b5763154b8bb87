use Rattle.fairness_laws.proofs.Ledger.Moving.{down_is_up_before}
use Rattle.fairness_laws.proofs.fair_laws.down_is_up_before.Goals as goal

pub returns : goal.returns
returns c = down_is_up_before
