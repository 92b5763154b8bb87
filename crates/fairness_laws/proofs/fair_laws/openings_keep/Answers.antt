use Rattle.fairness_laws.proofs.Ledger.Whole.{openings_keep}
use Rattle.fairness_laws.proofs.fair_laws.openings_keep.Goals as goal

pub returns : goal.returns
returns c = openings_keep
