use Rattle.fairness_laws.proofs.Closing.{close_late}
use Rattle.fairness_laws.proofs.wish_laws.roots_close_after_set_up.Goals as goal

pub returns : goal.returns
returns c = close_late
