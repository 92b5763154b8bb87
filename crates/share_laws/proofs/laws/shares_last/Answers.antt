use Rattle.share_laws.proofs.Lasting.{shares_last as last}
use Rattle.share_laws.proofs.laws.shares_last.Goals as goal

pub returns : goal.returns
returns c = last
