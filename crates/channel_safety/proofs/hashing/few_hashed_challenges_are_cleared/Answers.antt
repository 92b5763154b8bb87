use Rattle.channel_safety.proofs.Telling.{hashed-cleared}
use Rattle.channel_safety.proofs.hashing.few_hashed_challenges_are_cleared.Goals as goal

pub returns : goal.returns
returns c = hashed-cleared
