-- A new node stands for the beginning of every history.
use Rattle.channel_node.proofs.Calling.{fresh_nodes_stand}
use Rattle.channel_node.proofs.node.Node.make.Goals as goal

pub returns-clause-stands : goal.returns-clause-stands
returns-clause-stands g c = λ h.
    rw (c.new.ensures.items, c.new-2.ensures.items, c.requires.knows, c.requires.unused) (fresh_nodes_stand g.M.Knowing.tables g.M.Knowing.rules (g.M.Knowing.signer c.args.mind) h)
