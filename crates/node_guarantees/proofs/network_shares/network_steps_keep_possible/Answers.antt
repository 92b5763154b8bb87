use Rattle.node_guarantees.proofs.RealShares.{steps_possible}
use Rattle.node_guarantees.proofs.network_shares.network_steps_keep_possible.Goals as goal

pub returns : goal.returns
returns c = steps_possible
