use Rattle.channel_node.proofs.Raced.{racers-safe}
use Rattle.channel_node.proofs.race_node_laws.network_racers_are_safe.Goals as goal

pub returns : goal.returns
returns c = racers-safe
