use Rattle.channel_node.specs.Playing.{signing_of}
use Rattle.channel_node.proofs.TickPlaces.{Sending}
use Rattle.channel_node.proofs.node.Node.sign_all.Given as goal

abbrev pub invariant-loop-channel : goal.invariant-loop-channel
invariant-loop-channel g l =
    Sending g.M.Knowing.tables g.M.Knowing.rules (signing_of l.initial.self.signer) l.channels l.initial.self l.initial.all.sends.items l.all.sends.items l.initial.all.spent l.all.spent l.channel-index l.self
