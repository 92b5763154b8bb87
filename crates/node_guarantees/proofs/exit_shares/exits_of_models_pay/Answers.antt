use Rattle.node_guarantees.proofs.RealExits.{exits_pay}
use Rattle.node_guarantees.proofs.exit_shares.exits_of_models_pay.Goals as goal

pub returns : goal.returns
returns c = exits_pay
