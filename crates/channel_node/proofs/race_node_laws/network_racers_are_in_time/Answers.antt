use Rattle.channel_node.proofs.Raced.{racers-in_time}
use Rattle.channel_node.proofs.race_node_laws.network_racers_are_in_time.Goals as goal

pub returns : goal.returns
returns c = racers-in_time
