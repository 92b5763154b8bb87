use Rattle.share_laws.proofs.Ends.{chains_end}
use Rattle.share_laws.proofs.held_laws.held_chains_end_possibly.Goals as goal

pub returns : goal.returns
returns c = chains_end
