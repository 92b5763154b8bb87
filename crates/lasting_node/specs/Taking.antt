-- What is known of an event that code read.
use Rattle.std.specs.Prelude.{◌≡◌, Bool, Result, Ok, Err, ⊤, List}
use Rattle.call_history.specs.Limits.{KeepsCall}
use Rattle.node_lines.specs.declared.events.NodeEvent.{NodeEvent}
use Rattle.lasting_node.specs.declared.stepping.Failure.{Failure}
use Rattle.lasting_node.specs.declared.stepping.Failure.TheVariants as failures
use Rattle.lasting_node.specs.declared.taking.NotTaken.{NotTaken}
use Rattle.lasting_node.specs.declared.taking.Untaken.{Untaken}
use Rattle.lasting_node.specs.declared.taking.Untaken.TheVariants as untaken

-- An event is taken if it isn't foreign. Memory may run out in either case.
abbrev pub EndsBy : {A : Type 0} → (Foreign : Type 0) → Result A Failure → Type 0
EndsBy Foreign (Ok value) = Foreign → ⊥
EndsBy Foreign (Err failures.NoMemory) = ⊤
EndsBy Foreign (Err failures.Foreign) = Foreign

-- What a function returned is the event that is taken, or the reason why none is, unless memory ran out.
abbrev pub Takes : Result NodeEvent Untaken → Result NodeEvent NotTaken → Type 0
Takes (Ok event) taken = taken ≡ Ok event
Takes (Err untaken.NoMemory) taken = ⊤
Takes (Err (untaken.Not why)) taken = taken ≡ Err why
