use Rattle.further_laws.proofs.Resending.{resent_payments_are_held}
use Rattle.further_laws.proofs.resending_laws.resent_payments_are_held.Goals as goal

pub returns : goal.returns
returns c = resent_payments_are_held
