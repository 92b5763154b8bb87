use Rattle.share_laws.proofs.AtPlaces.{signatures_keep}
use Rattle.share_laws.proofs.signatures.signatures_keep_shares.Goals as goal

pub returns : goal.returns
returns c = signatures_keep
