use Rattle.channel_safety.proofs.Since.{has_steps}
use Rattle.channel_safety.proofs.safety.shown_chains_have_the_steps.Goals as goal

pub returns : goal.returns
returns c = has_steps
