use Rattle.std.proofs.Common.{◌≡◌, ◌++◌, take}
use Rattle.std.specs.List.{flat_map}
use Rattle.channel_node.specs.Giving.{of_other}
use Rattle.node_knowledge.proofs.giving.put_others.Given as goal

abbrev pub invariant-loop-part : goal.invariant-loop-part
invariant-loop-part l = l.names.items ≡ l.initial.names.items ++ flat_map of_other (take l.part-index l.parts)
