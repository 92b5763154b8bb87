use Rattle.channel_node.proofs.Calling.{follows_within}
use Rattle.channel_node.proofs.node_laws.follows_within.Goals as goal

pub returns : goal.returns
returns c = follows_within
