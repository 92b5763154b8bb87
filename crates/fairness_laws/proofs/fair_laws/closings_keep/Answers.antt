use Rattle.fairness_laws.proofs.Ledger.Whole.{closings_keep}
use Rattle.fairness_laws.proofs.fair_laws.closings_keep.Goals as goal

pub returns : goal.returns
returns c = closings_keep
