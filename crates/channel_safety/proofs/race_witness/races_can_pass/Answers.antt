use Rattle.channel_safety.proofs.Story.{passes}
use Rattle.channel_safety.proofs.race_witness.races_can_pass.Goals as goal

pub returns : goal.returns
returns c = passes
