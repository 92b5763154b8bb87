use Rattle.channel_safety.proofs.ChainsGrow.{noted-good}
use Rattle.channel_safety.proofs.chain_laws.good_chains_grow.Goals as goal

pub returns : goal.returns
returns c r f s w good passes = noted-good r f s w good passes
