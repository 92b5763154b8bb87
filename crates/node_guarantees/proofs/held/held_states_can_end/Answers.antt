use Rattle.node_guarantees.proofs.RealHeld.{states_end}
use Rattle.node_guarantees.proofs.held.held_states_can_end.Goals as goal

pub returns : goal.returns
returns c = states_end
