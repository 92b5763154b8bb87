use Rattle.share_laws.proofs.Nominals.{funded_is_nominal}
use Rattle.share_laws.proofs.parts.funded_parts_are_worth_their_amounts.Goals as goal

pub returns : goal.returns
returns c = funded_is_nominal
