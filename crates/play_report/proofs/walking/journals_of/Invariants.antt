use Rattle.std.proofs.Common.{◌≡◌, take, map}
use Rattle.play_report.specs.Reported.{journal_of}
use Rattle.play_report.proofs.walking.journals_of.Given as goal

abbrev pub invariant-loop-member : goal.invariant-loop-member
invariant-loop-member g l = l.journals.items ≡ map (journal_of g.P.Party.ways) (take l.member-index l.members)
