use Rattle.network.proofs.Watching.{checkpoints_are}
use Rattle.network.proofs.watcher_laws.looks_are_the_historys.Goals as goal

pub returns : goal.returns
returns c = checkpoints_are
