use Rattle.std.proofs.Common.{◌≡◌, take}
use Rattle.report_text.specs.People.{all_refused}
use Rattle.report_text.proofs.commands.all_refused.Given as goal

abbrev pub invariant-loop-journal : goal.invariant-loop-journal
invariant-loop-journal l = l.all.items ≡ all_refused (take l.journal-index l.journals)
