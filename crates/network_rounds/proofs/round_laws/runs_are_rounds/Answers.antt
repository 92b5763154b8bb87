use Rattle.network_rounds.proofs.Whole.{runs_are_rounds}
use Rattle.network_rounds.proofs.round_laws.runs_are_rounds.Goals as goal

pub returns : goal.returns
returns g c = runs_are_rounds _
