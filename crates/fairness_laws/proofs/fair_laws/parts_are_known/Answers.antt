use Rattle.fairness_laws.proofs.Plan.Parts.{parts_are_known}
use Rattle.fairness_laws.proofs.fair_laws.parts_are_known.Goals as goal

pub returns : goal.returns
returns c = parts_are_known
