use Rattle.script_run.proofs.Phased.{rounds_rest}
use Rattle.script_run.proofs.pair_play_laws.rounds_rest.Goals as goal

pub returns : goal.returns
returns c = rounds_rest
