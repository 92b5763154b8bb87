use Rattle.cast_actors.proofs.Within.{replayed_keeps, answer_keeps}
use Rattle.cast_actors.proofs.replayer.ReplayerActor.act.Goals as goal

-- src/replayer.rt:87:5
pub returns-clause-limits : goal.returns-clause-limits
returns-clause-limits c = answer_keeps c.answer.result _ (replayed_keeps c.args.seen.now.entries.items) c.answer.ensures
