use Rattle.script_run.proofs.Reports.{loads_pay}
use Rattle.script_run.proofs.load_laws.loads_pay.Goals as goal

pub returns : goal.returns
returns c = loads_pay
