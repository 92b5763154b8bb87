use Rattle.share_laws.proofs.Becoming.{signings_keep}
use Rattle.share_laws.proofs.shares.signings_keep_shares.Goals as goal

pub returns : goal.returns
returns c = signings_keep
