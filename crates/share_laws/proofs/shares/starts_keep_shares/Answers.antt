use Rattle.share_laws.proofs.Starting.{starts_keep}
use Rattle.share_laws.proofs.shares.starts_keep_shares.Goals as goal

pub returns : goal.returns
returns c = starts_keep
