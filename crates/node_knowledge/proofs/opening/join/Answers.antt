-- What a channel that is added leaves of the channels is the participant's own.
use Rattle.std.specs.Prelude.{[], ◌∷◌}
use Rattle.node_knowledge.proofs.Owns.{own_added}
use Rattle.node_knowledge.proofs.opening.join.Goals as goal

pub returns-clause-owned : goal.returns-clause-owned
returns-clause-owned c =
    own_added c.args.key.now (c.args.fixed.now ∷ []) c.args.store.now c.join_store.new.store c.join_store.result c.join_store.ensures.ok c.join_store.ensures.err
