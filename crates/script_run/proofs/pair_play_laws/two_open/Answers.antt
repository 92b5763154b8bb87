use Rattle.script_run.proofs.Phased.{two_open}
use Rattle.script_run.proofs.pair_play_laws.two_open.Goals as goal

pub returns : goal.returns
returns c = two_open
