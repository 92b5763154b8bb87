use Rattle.std.proofs.Common.{take}
use Rattle.std.specs.List.{AllByRecursion}
use Rattle.channel_values.specs.Parts.{IsFixed}
use Rattle.channel_safety.proofs.validity.fixed_parts_are_valid.Given as goal

abbrev pub invariant-loop-fixed : goal.invariant-loop-fixed
invariant-loop-fixed l = AllByRecursion IsFixed (take l.fixed-index l.fixed_parts)
