use Rattle.support_rules.proofs.Kept.{steps_keep}
use Rattle.support_rules.proofs.support_laws.steps_keep_may.Goals as goal

pub returns : goal.returns
returns c = steps_keep
