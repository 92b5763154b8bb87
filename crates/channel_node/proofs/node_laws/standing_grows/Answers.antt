use Rattle.channel_node.proofs.Calling.{standing_grows}
use Rattle.channel_node.proofs.node_laws.standing_grows.Goals as goal

pub returns : goal.returns
returns c = standing_grows
