use Rattle.fairness_laws.proofs.Seat.Sitting.{repeats_are_fair}
use Rattle.fairness_laws.proofs.fair_laws.repeats_are_fair.Goals as goal

pub returns : goal.returns
returns c = repeats_are_fair
