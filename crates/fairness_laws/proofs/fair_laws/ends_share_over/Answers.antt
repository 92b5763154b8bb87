use Rattle.fairness_laws.proofs.Ledger.Ended.{ends_share_over as shares}
use Rattle.fairness_laws.proofs.fair_laws.ends_share_over.Goals as goal

pub returns : goal.returns
returns c = shares
