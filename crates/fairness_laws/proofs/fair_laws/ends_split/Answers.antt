use Rattle.fairness_laws.proofs.Joint.Splits.{ends_split}
use Rattle.fairness_laws.proofs.fair_laws.ends_split.Goals as goal

pub returns : goal.returns
returns c = ends_split
