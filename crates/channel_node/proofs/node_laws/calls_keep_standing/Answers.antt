use Rattle.channel_node.proofs.Calling.{calls_keep_standing}
use Rattle.channel_node.proofs.node_laws.calls_keep_standing.Goals as goal

pub returns : goal.returns
returns c = calls_keep_standing
