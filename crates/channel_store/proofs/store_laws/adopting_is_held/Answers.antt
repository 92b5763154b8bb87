use Rattle.channel_store.proofs.Holding.{adopting_is_held}
use Rattle.channel_store.proofs.store_laws.adopting_is_held.Goals as goal

pub returns : goal.returns
returns c = adopting_is_held
