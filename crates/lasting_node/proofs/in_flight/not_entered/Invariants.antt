use Rattle.std.proofs.Common.{◌≡◌, take}
use Rattle.lasting_node.specs.InFlight.{not_entered}
use Rattle.lasting_node.proofs.in_flight.not_entered.Given as goal

abbrev pub invariant-loop-w : goal.invariant-loop-w
invariant-loop-w l = l.left.items ≡ not_entered l.op (take l.w-index l.waiting)
