use Rattle.script_run.proofs.Phased.{two_close}
use Rattle.script_run.proofs.pair_play_laws.two_close.Goals as goal

pub returns : goal.returns
returns c = two_close
