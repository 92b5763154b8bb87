use Rattle.script_run.proofs.Phased.{payments_are_held}
use Rattle.script_run.proofs.pair_play_laws.payments_are_held.Goals as goal

pub returns : goal.returns
returns c = payments_are_held
