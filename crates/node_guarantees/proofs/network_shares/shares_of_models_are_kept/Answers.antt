use Rattle.node_guarantees.proofs.RealShares.{shares_kept}
use Rattle.node_guarantees.proofs.network_shares.shares_of_models_are_kept.Goals as goal

pub returns : goal.returns
returns c = shares_kept
