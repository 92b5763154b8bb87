use Rattle.std.proofs.Common.{◌≡◌, take}
use Rattle.funding_plans.specs.Parts.{channels}
use Rattle.lasting_node.proofs.queries.channels_of.Given as goal

abbrev pub invariant-loop-part : goal.invariant-loop-part
invariant-loop-part l = l.all.items ≡ channels (take l.part-index l.parts)
