-- After a note each channel is the participant's own.
use Rattle.node_knowledge.proofs.known.Known.note.Goals as goal

pub invariant_of-self : goal.invariant_of-self
invariant_of-self c = (c.self.invariant.0, c.self.invariant.1, c.note_own.ensures.owned c.self.inside.key c.self.invariant.2)
