use Rattle.network_rounds.proofs.Kept.{rounds_keep}
use Rattle.network_rounds.proofs.round_laws.rounds_keep_crews.Goals as goal

pub returns : goal.returns
returns g c = rounds_keep _ _
