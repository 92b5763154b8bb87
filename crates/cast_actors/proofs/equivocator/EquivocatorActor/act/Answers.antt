use Rattle.cast_actors.proofs.Within.{answer_keeps}
use Rattle.cast_actors.proofs.Answering.{equivocated_keeps}
use Rattle.cast_actors.proofs.equivocator.EquivocatorActor.act.Goals as goal

-- src/equivocator.rt
pub returns-clause-limits : goal.returns-clause-limits
returns-clause-limits c = answer_keeps c.answer.result _ (equivocated_keeps c.args.self.now.signer c.args.seen.now.entries.items) c.answer.ensures.act
