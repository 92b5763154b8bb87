use Rattle.channel_exits.proofs.Whole.{exits_pay}
use Rattle.channel_exits.proofs.laws.exit_pays_the_share.Goals as goal

-- src/laws.rt:6:1
pub returns : goal.returns
returns c = exits_pay
