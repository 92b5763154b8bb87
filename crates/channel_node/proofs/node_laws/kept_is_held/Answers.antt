use Rattle.channel_node.proofs.Once.{kept_is_held}
use Rattle.channel_node.proofs.node_laws.kept_is_held.Goals as goal

pub returns : goal.returns
returns c = kept_is_held
