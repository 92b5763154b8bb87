use Rattle.node_guarantees.proofs.Leaving.{tells_exits}
use Rattle.node_guarantees.proofs.view_laws.views_tell_exits.Goals as goal

pub returns : goal.returns
returns c = tells_exits
