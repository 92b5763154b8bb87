use Rattle.channel_exits.proofs.Fair.{leavers_paid}
use Rattle.channel_exits.proofs.laws.fair_leavers_are_paid.Goals as goal

pub returns : goal.returns
returns c = leavers_paid
