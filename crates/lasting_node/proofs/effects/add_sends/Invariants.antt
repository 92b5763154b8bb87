use Rattle.std.proofs.Common.{◌≡◌, ◌++◌, take}
use Rattle.lasting_node.specs.Effects.{sends}
use Rattle.lasting_node.proofs.effects.add_sends.Given as goal

abbrev pub invariant-loop-letter : goal.invariant-loop-letter
invariant-loop-letter l = l.effects.items ≡ l.fn.effects.items ++ sends (take l.letter-index l.letters)
