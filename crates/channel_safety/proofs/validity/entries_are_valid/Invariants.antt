use Rattle.std.proofs.Common.{take}
use Rattle.std.specs.List.{AllByRecursion}
use Rattle.channel_safety.specs.Valid.{IsValidEntry}
use Rattle.channel_safety.proofs.validity.entries_are_valid.Given as goal

abbrev pub invariant-loop-entry : goal.invariant-loop-entry
invariant-loop-entry l = AllByRecursion IsValidEntry (take l.entry-index l.entries)
