use Rattle.std.proofs.Common.{◌≡◌, ◌++◌, take, flat_map}
use Rattle.channel_safety.specs.Hashed.{of_entry}
use Rattle.premises.proofs.hashed.add_entries.Given as goal

abbrev pub invariant-loop-entry : goal.invariant-loop-entry
invariant-loop-entry l = l.strings.items ≡ l.initial.strings.items ++ flat_map of_entry (take l.entry-index l.history)
