use Rattle.node_guarantees.proofs.RealExits.{exits_pay}
use Rattle.node_guarantees.proofs.exit_shares.network_exits_pay.Goals as goal

pub returns : goal.returns
returns c adds fixed = exits_pay _ _ (c.values_are_valid.ensures adds fixed)
