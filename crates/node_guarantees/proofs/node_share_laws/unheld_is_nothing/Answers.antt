use Rattle.node_guarantees.proofs.Unheld.{unheld_is_nothing}
use Rattle.node_guarantees.proofs.node_share_laws.unheld_is_nothing.Goals as goal

pub returns : goal.returns
returns c = unheld_is_nothing
