use Rattle.report_text.proofs.Texts.{steps_of_more}
use Rattle.report_text.proofs.commands.refused_steps.Goals as goal

pub loop-refused-preserved : goal.loop-refused-preserved
loop-refused-preserved c = steps_of_more _ _ _ _ _ c.loop-refused-test.true c.loop-refused.invariant c.in_ok-insert.ensures.keys
