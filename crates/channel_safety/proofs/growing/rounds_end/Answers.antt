use Rattle.channel_safety.proofs.Grows.{round_ends}
use Rattle.channel_safety.proofs.growing.rounds_end.Goals as goal

pub returns : goal.returns
returns c = round_ends
