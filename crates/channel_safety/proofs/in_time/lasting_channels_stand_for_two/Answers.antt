use Rattle.channel_safety.proofs.Looks.{stand_for_two}
use Rattle.channel_safety.proofs.in_time.lasting_channels_stand_for_two.Goals as goal

pub returns : goal.returns
returns c = stand_for_two
