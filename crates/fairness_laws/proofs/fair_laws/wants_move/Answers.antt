use Rattle.fairness_laws.proofs.Ledger.Aiming.{wants_move}
use Rattle.fairness_laws.proofs.fair_laws.wants_move.Goals as goal

pub returns : goal.returns
returns c = wants_move
