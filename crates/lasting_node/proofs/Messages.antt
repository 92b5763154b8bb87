-- What is written for a line that isn't taken.
use Rattle.std.proofs.Common.{◌≡◌, ℕ, List, Err, sym, subst}
use Rattle.lasting_node.specs.Machines.{taken}
use Rattle.lasting_node.specs.Queries.{IsMessage, IsSaid, Says}
use Rattle.lasting_node.specs.declared.machine.NodeMachine.{NodeMachine}
use Rattle.lasting_node.specs.declared.taking.NotTaken.{NotTaken}

pub says : (m : NodeMachine) (line text : List ℕ) (why : NotTaken) → taken m line ≡ Err why → IsMessage m why text → Says m line text
says m line text why e is = subst (λ r. IsSaid m r text) (sym e) is
