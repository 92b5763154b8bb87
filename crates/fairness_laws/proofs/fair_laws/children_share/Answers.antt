use Rattle.fairness_laws.proofs.Payment.Shares.{children_share as shares}
use Rattle.fairness_laws.proofs.fair_laws.children_share.Goals as goal

pub returns : goal.returns
returns c = shares
