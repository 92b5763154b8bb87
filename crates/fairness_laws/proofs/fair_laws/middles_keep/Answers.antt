use Rattle.fairness_laws.proofs.Joint.MiddlesKeep.{middles_keep as keep}
use Rattle.fairness_laws.proofs.fair_laws.middles_keep.Goals as goal

pub returns : goal.returns
returns c = keep
