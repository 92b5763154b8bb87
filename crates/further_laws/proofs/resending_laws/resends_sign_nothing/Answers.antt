use Rattle.further_laws.proofs.Resending.{resends_sign_nothing}
use Rattle.further_laws.proofs.resending_laws.resends_sign_nothing.Goals as goal

pub returns : goal.returns
returns c = resends_sign_nothing
