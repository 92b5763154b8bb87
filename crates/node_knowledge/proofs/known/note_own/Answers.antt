-- What a note leaves of the channels is the participant's own.
use Rattle.node_knowledge.proofs.Owns.{own_noted}
use Rattle.node_knowledge.proofs.known.note_own.Goals as goal

pub returns-clause-owned : goal.returns-clause-owned
returns-clause-owned c key =
    own_noted key c.args.channel.now c.args.signed c.args.own c.args.store.now c.note_checked.new.self c.note_checked.result c.note_checked.ensures.ok c.note_checked.ensures.err
