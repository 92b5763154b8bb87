use Rattle.lasting_node.proofs.Lasting.{started_last}
use Rattle.nitro_library.proofs.node.started_node_lasts.Goals as goal

pub returns : goal.returns
returns c = started_last c.nodes_last.ensures c.args.key.now c.requires
