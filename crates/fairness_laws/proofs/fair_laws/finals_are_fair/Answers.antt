use Rattle.fairness_laws.proofs.Seat.Sitting.{finals_are_fair}
use Rattle.fairness_laws.proofs.fair_laws.finals_are_fair.Goals as goal

pub returns : goal.returns
returns c = finals_are_fair
