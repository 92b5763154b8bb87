use Rattle.script_run.proofs.Sound.{have_sums}
use Rattle.script_run.proofs.report_laws.records_have_sums.Goals as goal

pub returns : goal.returns
returns g c = have_sums g.P.Party.ways
