use Rattle.std.proofs.Common.{◌≡◌, take}
use Rattle.std.specs.Prelude.{flat_map}
use Rattle.lasting_node.specs.Queries.{letter_to}
use Rattle.lasting_node.proofs.resending.letters.Given as goal

abbrev pub invariant-loop-key : goal.invariant-loop-key
invariant-loop-key l = l.all.items ≡ flat_map (letter_to l.me l.fixed l.state l.signature) (take l.key-index l.fixed.keys)
