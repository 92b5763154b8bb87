use Rattle.channel_store.proofs.Holding.{opening_is_held}
use Rattle.channel_store.proofs.store_laws.opening_is_held.Goals as goal

pub returns : goal.returns
returns c = opening_is_held
