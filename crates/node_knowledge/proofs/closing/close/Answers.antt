use Rattle.node_knowledge.proofs.Closed.{closed_more, left_more}
use Rattle.node_knowledge.proofs.closing.close.Goals as goal
use Rattle.node_knowledge.proofs.closing.close.Goals.{then-goal-place, else-goal-place}

pub loop-goal-preserved : goal.loop-goal-preserved
loop-goal-preserved c =
    elim c.if-goal-place.branch [
      | then-goal-place w ↦ closed_more c.args.lets c.args.place c.args.goals.now c.loop-goal.goals c.if-goal-place.goals c.loop-goal.goal-index c.goal-item.result c.loop-goal-test.true c.loop-goal.invariant c.goal-item.is w.if-goal-place.true w.goals-is
      | else-goal-place w ↦ left_more c.args.lets c.args.place c.args.goals.now c.loop-goal.goals c.if-goal-place.goals c.loop-goal.goal-index c.goal-item.result c.loop-goal-test.true c.loop-goal.invariant c.goal-item.is w.if-goal-place.false w.goals-is
    ]
