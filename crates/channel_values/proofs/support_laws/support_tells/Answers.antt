use Rattle.channel_values.proofs.Rows.{support_tells}
use Rattle.channel_values.proofs.support_laws.support_tells.Goals as goal

pub returns : goal.returns
returns c = support_tells
