-- After an entry each channel is the participant's own.
use Rattle.node_knowledge.proofs.known.Known.see.Goals as goal

pub invariant_of-self-2 : goal.invariant_of-self-2
invariant_of-self-2 c = (c.self.invariant.0, c.self.invariant.1, c.adopt_own.ensures.owned c.self.inside.key c.self.invariant.2)
