use Rattle.channel_node.specs.Playing.{signing_of}
use Rattle.channel_node.proofs.Challenging.{Calling}
use Rattle.channel_node.proofs.node.Node.challenge_all.Given as goal

abbrev pub invariant-loop-channel : goal.invariant-loop-channel
invariant-loop-channel g l =
    Calling g.M.Knowing.tables g.M.Knowing.rules (signing_of l.initial.self.signer) l.channels l.initial.self l.initial.all.calls.items l.all.calls.items l.initial.all.spent l.all.spent l.channel-index l.self
