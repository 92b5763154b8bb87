use Rattle.share_laws.proofs.Ends.{hashed_end}
use Rattle.share_laws.proofs.held_laws.hashed_chains_end_possibly.Goals as goal

pub returns : goal.returns
returns c = hashed_end
