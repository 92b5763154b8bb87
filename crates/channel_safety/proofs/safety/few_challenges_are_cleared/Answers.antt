use Rattle.channel_safety.proofs.Clearing.{few-cleared}
use Rattle.channel_safety.proofs.safety.few_challenges_are_cleared.Goals as goal

pub returns : goal.returns
returns c = few-cleared
