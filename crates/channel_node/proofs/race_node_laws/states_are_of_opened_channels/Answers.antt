use Rattle.channel_node.proofs.Opened.{states-opened}
use Rattle.channel_node.proofs.race_node_laws.states_are_of_opened_channels.Goals as goal

pub returns : goal.returns
returns c = states-opened
