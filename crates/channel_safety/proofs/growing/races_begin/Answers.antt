use Rattle.channel_safety.proofs.Grows.{begins}
use Rattle.channel_safety.proofs.growing.races_begin.Goals as goal

pub returns : goal.returns
returns c = begins
