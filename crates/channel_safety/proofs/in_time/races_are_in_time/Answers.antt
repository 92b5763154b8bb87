use Rattle.channel_safety.proofs.Looks.{in_time}
use Rattle.channel_safety.proofs.in_time.races_are_in_time.Goals as goal

pub returns : goal.returns
returns c = in_time
