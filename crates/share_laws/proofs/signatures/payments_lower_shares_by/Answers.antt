use Rattle.share_laws.proofs.AtPlaces.{payments_lower_by}
use Rattle.share_laws.proofs.signatures.payments_lower_shares_by.Goals as goal

pub returns : goal.returns
returns c = payments_lower_by
