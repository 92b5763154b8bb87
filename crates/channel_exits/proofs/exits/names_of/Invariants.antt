use Rattle.std.proofs.Common.{◌≡◌, take}
use Rattle.funding_plans.specs.Parts.{channels}
use Rattle.channel_exits.proofs.exits.names_of.Given as goal

abbrev pub invariant-loop-part : goal.invariant-loop-part
invariant-loop-part l = l.names.items ≡ channels (take l.part-index l.parts)
