use Rattle.std.proofs.Common.{take}
use Rattle.play_report.specs.Members.{AllFixed}
use Rattle.play_report.proofs.walking.openings_are_fixed.Given as goal

abbrev pub invariant-loop-person : goal.invariant-loop-person
invariant-loop-person g l = AllFixed g.P.Party.ways (take l.person-index l.members)
