use Rattle.network_rounds.proofs.Races.{races_stay}
use Rattle.network_rounds.proofs.round_laws.races_stay.Goals as goal

pub returns : goal.returns
returns g c = races_stay _ _
