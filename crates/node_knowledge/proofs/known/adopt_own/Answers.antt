-- What a chain that was shown leaves of the channels is the participant's own.
use Rattle.node_knowledge.proofs.Owns.{own_shown}
use Rattle.node_knowledge.proofs.known.adopt_own.Goals as goal

pub returns-clause-owned : goal.returns-clause-owned
returns-clause-owned c key = own_shown key c.args.shown c.args.store.now c.adopt_shown.new.store c.adopt_shown.result c.adopt_shown.ensures.ok c.adopt_shown.ensures.err
