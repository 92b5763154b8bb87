use Rattle.channel_safety.proofs.Telling.{hashed-steps}
use Rattle.channel_safety.proofs.hashing.hashed_chains_have_the_steps.Goals as goal

pub returns : goal.returns
returns c = hashed-steps
