use Rattle.support_rules.proofs.Ends.{support_keeps}
use Rattle.support_rules.proofs.support_laws.support_keeps_may.Goals as goal

pub returns : goal.returns
returns c = support_keeps
