-- What a message makes of a node stands, whatever it answered, and it is answered why it was refused, if it was.
use Rattle.network_node.proofs.Few.{is_node, lost_node, handled_small}
use Rattle.network_node.proofs.Kept.{handle_keeps, handle_loses, handle_refuses, lose_keeps}
use Rattle.network_node.proofs.node.NodeParty.handle.Goals as goal

pub returns-in_default-clause-keeps : goal.returns-in_default-clause-keeps
returns-in_default-clause-keeps c = rw (← c.self.view_is) (lose_keeps (record { number = c.self.inside.number; node = c.self.inside.node; exits = c.self.inside.exits }) c.lose.new.self c.lose.ensures)

pub returns-clause-keeps : goal.returns-clause-keeps
returns-clause-keeps c =
    rw (← c.self.view_is)
    (handle_keeps (record { number = c.self.inside.number; node = c.self.inside.node; exits = c.self.inside.exits }) c.in-Ok.bytes c.handle.new.self c.handle.result c.handle.ensures.answer c.handle.ensures.keeps c.handle.ensures.signer)

pub returns-clause-refuses : goal.returns-clause-refuses
returns-clause-refuses c =
    rw (← c.self.view_is) (handle_refuses (record { number = c.self.inside.number; node = c.self.inside.node; exits = c.self.inside.exits }) c.args.bytes.now c.in-Ok.bytes c.handle.new.self c.handle.result c.in-Ok.ensures c.handle.ensures.answer)

pub returns-clause-loses : goal.returns-clause-loses
returns-clause-loses c = handle_loses c.in-Ok.bytes c.self.inside.node c.handle.new.self c.handle.result c.handle.ensures.answer

pub invariant_of-self : goal.invariant_of-self
invariant_of-self c = lost_node c.self.inside.key c.self.inside.node c.lose.new.self c.self.invariant c.lose.ensures

pub invariant_of-self-2 : goal.invariant_of-self-2
invariant_of-self-2 c =
    is_node c.self.inside.key c.self.inside.node c.handle.new.self c.self.invariant c.handle.ensures.signer
    (handled_small c.in-Ok.bytes c.self.inside.node c.handle.new.self c.handle.result c.handle.ensures.answer c.self.invariant.small)
