use Rattle.fairness_laws.proofs.Kept.{plans_keep_shares}
use Rattle.fairness_laws.proofs.fair_laws.plans_keep_shares.Goals as goal

pub returns : goal.returns
returns c = plans_keep_shares
