-- What entries make of a node stands, also where they were cut off.
use Rattle.std.proofs.Common.{sym}
use Rattle.network_node.proofs.Few.{is_node, seen_small}
use Rattle.network_node.proofs.Kept.{see_keeps}
use Rattle.network_node.proofs.node.NodeParty.see.Goals as goal

pub returns-clause-keeps : goal.returns-clause-keeps
returns-clause-keeps c =
    rw (← c.self.view_is)
    (see_keeps (record { number = c.self.inside.number; node = c.self.inside.node; exits = c.self.inside.exits }) c.args.entries.now c.see_all.new.node c.see_all.result (sym c.if-is_lost.ensures)
    c.see_all.ensures.saw c.see_all.ensures.lost c.see_all.ensures.same c.see_all.ensures.signer)

pub invariant_of-self : goal.invariant_of-self
invariant_of-self c =
    is_node c.self.inside.key c.self.inside.node c.see_all.new.node c.self.invariant c.see_all.ensures.signer
    (seen_small c.args.entries.now c.self.inside.node c.see_all.new.node c.see_all.result c.see_all.ensures.saw c.see_all.ensures.lost c.self.invariant.small)
