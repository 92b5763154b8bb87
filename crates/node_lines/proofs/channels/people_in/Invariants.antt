use Rattle.std.proofs.Common.{◌≡◌, [], drop}
use Rattle.node_lines.specs.Values.{key_of}
use Rattle.node_lines.proofs.Many.{many_left}
use Rattle.node_lines.proofs.channels.people_in.Given as goal

abbrev pub invariant-loop-value : goal.invariant-loop-value
invariant-loop-value l = many_left key_of l.people.items (drop l.value-index l.values) ≡ many_left key_of [] l.values
