use Rattle.fairness_laws.proofs.Ledger.Whole.{drifts_keep}
use Rattle.fairness_laws.proofs.fair_laws.drifts_keep.Goals as goal

pub returns : goal.returns
returns c = drifts_keep
