use Rattle.channel_exits.proofs.Leaver.{leaves}
use Rattle.channel_exits.proofs.witness.exits_can_pay.Goals as goal

pub returns : goal.returns
returns c = leaves
