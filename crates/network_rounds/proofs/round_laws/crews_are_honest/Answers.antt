use Rattle.network_rounds.proofs.Kept.{crews_are_honest}
use Rattle.network_rounds.proofs.round_laws.crews_are_honest.Goals as goal

pub returns : goal.returns
returns g c = crews_are_honest _ _
