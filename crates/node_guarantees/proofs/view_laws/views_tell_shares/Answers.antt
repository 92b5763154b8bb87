use Rattle.node_guarantees.proofs.Seeing.{tells_share}
use Rattle.node_guarantees.proofs.view_laws.views_tell_shares.Goals as goal

pub returns : goal.returns
returns c = tells_share
