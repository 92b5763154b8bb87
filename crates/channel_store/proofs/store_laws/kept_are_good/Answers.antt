use Rattle.channel_store.proofs.StaysGood.{kept_are_good}
use Rattle.channel_store.proofs.store_laws.kept_are_good.Goals as goal

pub returns : goal.returns
returns c = kept_are_good
