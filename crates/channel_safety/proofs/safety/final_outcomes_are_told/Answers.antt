use Rattle.channel_safety.proofs.Settled.{final-told}
use Rattle.channel_safety.proofs.safety.final_outcomes_are_told.Goals as goal

pub returns : goal.returns
returns c = final-told
