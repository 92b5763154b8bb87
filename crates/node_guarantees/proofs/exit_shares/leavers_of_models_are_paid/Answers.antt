use Rattle.node_guarantees.proofs.RealExits.{leavers_are_paid}
use Rattle.node_guarantees.proofs.exit_shares.leavers_of_models_are_paid.Goals as goal

pub returns : goal.returns
returns c = leavers_are_paid
