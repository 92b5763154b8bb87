use Rattle.fairness_laws.proofs.Ledger.Whole.{moves_keep}
use Rattle.fairness_laws.proofs.fair_laws.moves_keep.Goals as goal

pub returns : goal.returns
returns c = moves_keep
