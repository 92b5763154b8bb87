use Rattle.fairness_laws.proofs.Payment.Shares.{ends_share as shares}
use Rattle.fairness_laws.proofs.fair_laws.ends_share.Goals as goal

pub returns : goal.returns
returns c = shares
