use Rattle.further_laws.proofs.Happens.{each_happens}
use Rattle.further_laws.proofs.script_laws.every_passed_step_happens.Goals as goal

pub returns : goal.returns
returns g c = λ race steps kept st. each_happens g.P.Party.ways race steps kept st
