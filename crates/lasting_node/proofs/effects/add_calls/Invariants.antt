use Rattle.std.proofs.Common.{◌≡◌, ◌+◌, ◌++◌, take}
use Rattle.lasting_node.specs.Effects.{calls}
use Rattle.lasting_node.proofs.effects.add_calls.Given as goal

abbrev pub invariant-loop-call : goal.invariant-loop-call
invariant-loop-call l =
    (l.next ≡ l.fn.place + l.call-index)
    × (l.effects.items ≡ l.fn.effects.items ++ calls l.fn.place (take l.call-index l.given))
