use Rattle.std.proofs.Common.{take}
use Rattle.std.specs.List.{AllByRecursion}
use Rattle.channel_safety.specs.Valid.{IsValidEvent}
use Rattle.premises.specs.declared.journal.Journal.{Journal}
use Rattle.play_report.proofs.walking.journals_are_valid.Given as goal

abbrev pub invariant-loop-journal : goal.invariant-loop-journal
invariant-loop-journal l = AllByRecursion (λ (j : Journal). AllByRecursion IsValidEvent j.events) (take l.journal-index l.journals)
