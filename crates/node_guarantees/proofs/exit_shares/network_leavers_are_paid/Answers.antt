use Rattle.node_guarantees.proofs.RealExits.{leavers_are_paid}
use Rattle.node_guarantees.proofs.exit_shares.network_leavers_are_paid.Goals as goal

pub returns : goal.returns
returns c adds fixed = leavers_are_paid _ _ (c.values_are_valid.ensures adds fixed)
