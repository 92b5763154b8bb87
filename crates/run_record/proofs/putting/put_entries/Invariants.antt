use Rattle.std.proofs.Common.{◌≡◌, ◌++◌, take}
use Rattle.std.specs.List.{flat_map, AllByRecursion}
use Rattle.run_record.specs.Limits.{IsEntry}
use Rattle.run_record.specs.Spelling.{entry}
use Rattle.run_record.proofs.putting.put_entries.Given as goal

abbrev pub invariant-loop-entry : goal.invariant-loop-entry
invariant-loop-entry l = (l.out.items ≡ l.initial.out.items ++ flat_map entry (take l.entry-index l.entries)) × AllByRecursion IsEntry (take l.entry-index l.entries)
