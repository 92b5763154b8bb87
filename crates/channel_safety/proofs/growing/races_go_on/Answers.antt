use Rattle.channel_safety.proofs.Grows.{goes_on}
use Rattle.channel_safety.proofs.growing.races_go_on.Goals as goal

pub returns : goal.returns
returns c = goes_on
