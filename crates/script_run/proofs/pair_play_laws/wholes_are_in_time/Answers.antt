use Rattle.script_run.proofs.Timely.{wholes_are_in_time}
use Rattle.script_run.proofs.pair_play_laws.wholes_are_in_time.Goals as goal

pub returns : goal.returns
returns c = wholes_are_in_time
