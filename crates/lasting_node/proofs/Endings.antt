-- How an event ends, and why a file isn't served.
use Rattle.std.proofs.Common.{◌≡◌, ◌≢◌, ℕ, List, Ok, refl, sym, subst}
use Rattle.lasting_lines.specs.Endings.{FailsBy}
use Rattle.lasting_lines.specs.declared.outside.Fault.{Fault}
use Rattle.lasting_lines.specs.declared.outside.Fault.TheVariants as faults
use Rattle.node_lines.specs.Lines.{line_of}
use Rattle.node_lines.specs.declared.events.NodeEvent.{NodeEvent}
use Rattle.lasting_node.specs.Machines.{event_in, IsForeign, ForeignIn, Foreign}
use Rattle.lasting_node.specs.declared.machine.NodeMachine.{NodeMachine}

pub foreign : (m : NodeMachine) (line : List ℕ) (event : NodeEvent) → event_in (line_of line) ≡ Ok event → IsForeign m event → Foreign m line
foreign m line event is why = subst (ForeignIn m) (sym is) why

pub own : (m : NodeMachine) (line : List ℕ) (event : NodeEvent) → event_in (line_of line) ≡ Ok event → (IsForeign m event → ⊥) → Foreign m line → ⊥
own m line event is other why = other (subst (ForeignIn m) is why)

-- what is left besides memory and a foreign line
pub full : (A B : Type 0) (fault : Fault) → FailsBy A B fault → fault ≢ faults.NoMemory → fault ≢ faults.Foreign → B
full A B faults.NoMemory why some other = absurd (some refl)
full A B faults.Foreign why some other = absurd (other refl)
full A B faults.Full why some other = why
full A B faults.Input why some other = absurd why
full A B faults.Failed why some other = absurd why
