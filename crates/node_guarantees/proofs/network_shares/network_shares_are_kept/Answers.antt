use Rattle.node_guarantees.proofs.RealShares.{shares_kept}
use Rattle.node_guarantees.proofs.network_shares.network_shares_are_kept.Goals as goal

pub returns : goal.returns
returns c adds fixed = shares_kept _ _ (c.values_are_valid.ensures adds fixed)
