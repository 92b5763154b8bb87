use Rattle.channel_exits.proofs.Fair.{fair_exits}
use Rattle.channel_exits.proofs.laws.fair_exits_pay.Goals as goal

pub returns : goal.returns
returns c = fair_exits
