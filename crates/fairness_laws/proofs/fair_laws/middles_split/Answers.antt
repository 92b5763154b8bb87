use Rattle.fairness_laws.proofs.Joint.Splits.{middles_split}
use Rattle.fairness_laws.proofs.fair_laws.middles_split.Goals as goal

pub returns : goal.returns
returns c = middles_split
