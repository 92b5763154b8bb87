-- What a tick makes of a node is what its ways say, and stands, also where it was cut off.
use Rattle.network_node.proofs.Few.{is_node, ticked_small}
use Rattle.network_node.proofs.Kept.{stays_lost, tick_keeps, tick_makes}
use Rattle.channel_node.specs.Playing.{signing_of}
use Rattle.network_node.proofs.node.NodeParty.tick.Goals as goal

pub returns-clause-keeps : goal.returns-clause-keeps
returns-clause-keeps c =
    rw (← c.self.view_is)
    (tick_keeps (record { number = c.self.inside.number; node = c.self.inside.node; exits = c.self.inside.exits }) c.tick.new.self c.tick.result c.tick.ensures.ok c.tick.ensures.err c.tick.ensures.keeps c.tick.ensures.signer)

pub returns-clause-ticked : goal.returns-clause-ticked
returns-clause-ticked c =
    tick_makes c.args.self.now (record { number = c.self.inside.number; node = c.self.inside.node; exits = c.self.inside.exits }) c.tick.new.self c.tick.result c.self.view_is c.tick.ensures.ok

pub returns-clause-stays_lost : goal.returns-clause-stays_lost
returns-clause-stays_lost c =
    rw (← c.self.view_is)
    (stays_lost (record { number = c.self.inside.number; node = c.self.inside.node; exits = c.self.inside.exits }) c.tick.new.self _ c.tick.result c.tick.ensures.ok c.tick.ensures.still)

pub invariant_of-self : goal.invariant_of-self
invariant_of-self c =
    is_node c.self.inside.key c.self.inside.node c.tick.new.self c.self.invariant c.tick.ensures.signer
    (ticked_small (signing_of c.self.inside.node.signer) c.self.inside.node c.tick.new.self c.tick.result c.tick.ensures.ok c.tick.ensures.err c.self.invariant.small)
