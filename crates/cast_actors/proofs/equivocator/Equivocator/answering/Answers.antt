use Rattle.std.proofs.Common.{rules}
use Rattle.cast_actors.proofs.Answering.{answer_is}
use Rattle.cast_actors.proofs.equivocator.Equivocator.answering.Goals as goal

-- src/equivocator.rt
pub returns-clause-act : goal.returns-clause-act
returns-clause-act c =
    answer_is c.args.self.now.signer _ c.args.entries.now c.in-Some.entry.now c.in_ok-act.act (search rules) c.public-key.ensures c.in-Some.ensures c.in_ok-act.ensures.act
