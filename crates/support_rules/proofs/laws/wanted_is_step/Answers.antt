use Rattle.support_rules.proofs.TowardSteps as steps
use Rattle.support_rules.proofs.laws.wanted_is_step.Goals as goal

pub returns : goal.returns
returns c = steps.wanted_is_step
