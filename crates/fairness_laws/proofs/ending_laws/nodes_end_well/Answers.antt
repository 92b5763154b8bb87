use Rattle.fairness_laws.proofs.Ending.{nodes_end_well as law}
use Rattle.fairness_laws.proofs.ending_laws.nodes_end_well.Goals as goal

pub returns : goal.returns
returns c = law
