use Rattle.fairness_laws.proofs.Payment.Ended.{ended_stay}
use Rattle.fairness_laws.proofs.fair_laws.ended_channels_stay.Goals as goal

pub returns : goal.returns
returns c = ended_stay
