use Rattle.network_rounds.proofs.Ordered.{rounds_keep_order}
use Rattle.network_rounds.proofs.round_laws.rounds_keep_order.Goals as goal

pub returns : goal.returns
returns g c = rounds_keep_order _ _
