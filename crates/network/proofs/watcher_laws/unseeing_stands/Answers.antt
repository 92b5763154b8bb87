use Rattle.network.proofs.Watching.{stands_fresh}
use Rattle.network.proofs.watcher_laws.unseeing_stands.Goals as goal

pub returns : goal.returns
returns c = stands_fresh
