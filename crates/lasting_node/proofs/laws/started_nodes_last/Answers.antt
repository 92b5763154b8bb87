use Rattle.lasting_node.proofs.Lasting.{started_last}
use Rattle.lasting_node.proofs.laws.started_nodes_last.Goals as goal

pub returns : goal.returns
returns c = started_last c.nodes_last.ensures c.args.start.now c.requires
