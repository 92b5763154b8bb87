use Rattle.std.proofs.Common.{take}
use Rattle.std.specs.List.{AllByRecursion}
use Rattle.channel_values.specs.Parts.{IsFixed}
use Rattle.channel_safety.proofs.validity.adds_are_valid.Given as goal

abbrev pub invariant-loop-added : goal.invariant-loop-added
invariant-loop-added l = AllByRecursion (AllByRecursion IsFixed) (take l.added-index l.adds)
