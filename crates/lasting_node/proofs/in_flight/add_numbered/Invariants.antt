use Rattle.std.proofs.Common.{◌≡◌, ◌+◌, ◌++◌, take}
use Rattle.lasting_node.specs.InFlight.{numbered}
use Rattle.lasting_node.proofs.in_flight.add_numbered.Given as goal

abbrev pub invariant-loop-call : goal.invariant-loop-call
invariant-loop-call l =
    (l.next ≡ l.fn.place + l.call-index)
    × (l.waiting ≡ l.fn.waiting ++ numbered l.event l.fn.place (take l.call-index l.calls))
