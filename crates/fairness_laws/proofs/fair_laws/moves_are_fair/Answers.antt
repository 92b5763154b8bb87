use Rattle.fairness_laws.proofs.Seat.Sitting.{moves_are_fair}
use Rattle.fairness_laws.proofs.fair_laws.moves_are_fair.Goals as goal

pub returns : goal.returns
returns c = moves_are_fair
