use Rattle.std.proofs.Common.{◌≡◌, take}
use Rattle.channel_node.specs.Nodes.{gave}
use Rattle.channel_node.proofs.node.Node.give_all.Given as goal

abbrev pub invariant-loop-call : goal.invariant-loop-call
invariant-loop-call g l = l.self ≡ gave (take l.call-index l.given) l.initial.self
