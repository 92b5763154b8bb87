use Rattle.script_run.proofs.Taking.{roots_take}
use Rattle.script_run.proofs.pair_laws.roots_take.Goals as goal

pub returns : goal.returns
returns c = roots_take
