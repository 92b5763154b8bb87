use Rattle.channel_safety.proofs.Example.{runs_out_safely}
use Rattle.channel_safety.proofs.safety_witness.premises_can_hold.Goals as goal

pub returns : goal.returns
returns c = runs_out_safely
