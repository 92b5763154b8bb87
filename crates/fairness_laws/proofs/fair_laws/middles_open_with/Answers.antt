use Rattle.fairness_laws.proofs.Opening.Middles.{middles_open}
use Rattle.fairness_laws.proofs.fair_laws.middles_open_with.Goals as goal

pub returns : goal.returns
returns c = middles_open
