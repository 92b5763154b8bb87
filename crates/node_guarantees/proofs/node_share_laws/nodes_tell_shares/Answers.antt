use Rattle.node_guarantees.proofs.Telling.{nodes_tell_shares}
use Rattle.node_guarantees.proofs.node_share_laws.nodes_tell_shares.Goals as goal

pub returns : goal.returns
returns c = nodes_tell_shares
