use Rattle.channel_safety.proofs.Taking.{take-part}
use Rattle.channel_safety.proofs.safety.honest_participants_take_part.Goals as goal

pub returns : goal.returns
returns c = take-part
