use Rattle.script_run.proofs.Alike.{alike}
use Rattle.script_run.proofs.laws.calm_runs_end_alike.Goals as goal

pub returns : goal.returns
returns g c words bytes cast = alike g.P.Party.ways cast words bytes
