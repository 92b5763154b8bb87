use Rattle.channel_safety.proofs.Grows.{racers_join}
use Rattle.channel_safety.proofs.growing.racers_join.Goals as goal

pub returns : goal.returns
returns c = racers_join
