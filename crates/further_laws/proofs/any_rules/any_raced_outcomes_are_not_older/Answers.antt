use Rattle.further_laws.proofs.Real.{any-raced_safe}
use Rattle.further_laws.proofs.any_rules.any_raced_outcomes_are_not_older.Goals as goal

pub returns : goal.returns
returns c = any-raced_safe
