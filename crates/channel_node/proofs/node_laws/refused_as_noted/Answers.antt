use Rattle.channel_node.proofs.Stored.{refused_as_noted}
use Rattle.channel_node.proofs.node_laws.refused_as_noted.Goals as goal

pub returns : goal.returns
returns c = refused_as_noted
