use Rattle.channel_values.proofs.Exact.{support_is_exact}
use Rattle.channel_values.proofs.support_laws.support_is_exact.Goals as goal

pub returns : goal.returns
returns c = support_is_exact
