use Rattle.further_laws.proofs.Resending.{payments_are_sent_again, resends_stay}
use Rattle.further_laws.proofs.resending_laws.payments_are_sent_again.Goals as goal

pub returns-clause-again : goal.returns-clause-again
returns-clause-again c = payments_are_sent_again

pub returns-clause-stays : goal.returns-clause-stays
returns-clause-stays c = resends_stay
