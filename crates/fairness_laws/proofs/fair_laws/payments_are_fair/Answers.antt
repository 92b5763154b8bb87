use Rattle.fairness_laws.proofs.Seat.Paying.{payments_are_fair}
use Rattle.fairness_laws.proofs.fair_laws.payments_are_fair.Goals as goal

pub returns : goal.returns
returns c = payments_are_fair
