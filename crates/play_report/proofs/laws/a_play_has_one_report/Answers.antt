use Rattle.play_report.proofs.Once.{one_report}
use Rattle.play_report.proofs.laws.a_play_has_one_report.Goals as goal

pub returns : goal.returns
returns g c commands = one_report commands g.P.Party.ways
