use Rattle.script_run.proofs.Rounds.{rounds_are_made}
use Rattle.script_run.proofs.pair_play_laws.rounds_are_made.Goals as goal

pub returns : goal.returns
returns c = rounds_are_made
