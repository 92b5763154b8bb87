use Rattle.channel_store.proofs.Holding.{noting_is_alone}
use Rattle.channel_store.proofs.store_laws.noting_is_alone.Goals as goal

pub returns : goal.returns
returns c = noting_is_alone
