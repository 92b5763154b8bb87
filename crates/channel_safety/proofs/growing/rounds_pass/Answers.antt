use Rattle.channel_safety.proofs.Grows.{rounds_pass}
use Rattle.channel_safety.proofs.growing.rounds_pass.Goals as goal

pub returns : goal.returns
returns c = rounds_pass
