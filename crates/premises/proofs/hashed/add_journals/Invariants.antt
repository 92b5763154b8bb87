use Rattle.std.proofs.Common.{◌≡◌, ◌++◌, take, flat_map}
use Rattle.premises.specs.Collision.{of_journal}
use Rattle.premises.proofs.hashed.add_journals.Given as goal

abbrev pub invariant-loop-journal : goal.invariant-loop-journal
invariant-loop-journal l = l.strings.items ≡ l.initial.strings.items ++ flat_map of_journal (take l.journal-index l.journals)
