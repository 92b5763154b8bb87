use Rattle.std.proofs.Common.{◌≡◌, ◌≤◌, take, length}
use Rattle.lasting_node.specs.InFlight.{not_in_flight}
use Rattle.lasting_node.proofs.in_flight.not_in_flight.Given as goal

abbrev pub invariant-loop-call : goal.invariant-loop-call
invariant-loop-call l =
    (l.more.items ≡ not_in_flight l.waiting (take l.call-index l.calls)) × (length l.more.items ≤ l.call-index)
