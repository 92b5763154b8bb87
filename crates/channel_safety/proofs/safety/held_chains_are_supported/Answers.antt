use Rattle.channel_safety.proofs.Opening.{held-good}
use Rattle.channel_safety.proofs.safety.held_chains_are_supported.Goals as goal

pub returns : goal.returns
returns c r f h journal one = held-good r f one h journal
