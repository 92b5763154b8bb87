use Rattle.fairness_laws.proofs.Seat.Sitting.{passes_are_fair}
use Rattle.fairness_laws.proofs.fair_laws.passes_are_fair.Goals as goal

pub returns : goal.returns
returns c = passes_are_fair
