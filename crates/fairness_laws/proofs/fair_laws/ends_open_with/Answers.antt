use Rattle.fairness_laws.proofs.Opening.Ends.{ends_open}
use Rattle.fairness_laws.proofs.fair_laws.ends_open_with.Goals as goal

pub returns : goal.returns
returns c = ends_open
