use Rattle.channel_node.proofs.Raced.{lasting-noted}
use Rattle.channel_node.proofs.race_node_laws.lasting_plans_are_noted.Goals as goal

pub returns : goal.returns
returns c = lasting-noted
