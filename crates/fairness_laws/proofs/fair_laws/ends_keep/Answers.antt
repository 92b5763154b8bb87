use Rattle.fairness_laws.proofs.Joint.EndsKeep.{ends_keep as keep}
use Rattle.fairness_laws.proofs.fair_laws.ends_keep.Goals as goal

pub returns : goal.returns
returns c = keep
