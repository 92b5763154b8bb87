use Rattle.script_run.proofs.Whole.{two_finish_whole}
use Rattle.script_run.proofs.pair_play_laws.honest_two_finish.Goals as goal

pub returns : goal.returns
returns c = two_finish_whole
