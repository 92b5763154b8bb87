use Rattle.further_laws.proofs.LettingGo.{let_go_stays, releases_let_go}
use Rattle.further_laws.proofs.release_laws.let_go_stays.Goals as goal

pub returns-clause-accepted : goal.returns-clause-accepted
returns-clause-accepted c = releases_let_go

pub returns-clause-stays : goal.returns-clause-stays
returns-clause-stays c = let_go_stays
