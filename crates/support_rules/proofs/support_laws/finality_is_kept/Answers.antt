use Rattle.support_rules.proofs.Finals.{real_keeps_final}
use Rattle.support_rules.proofs.support_laws.finality_is_kept.Goals as goal

pub returns : goal.returns
returns c = real_keeps_final
