use Rattle.network.proofs.Watching.{looks_are_kept}
use Rattle.network.proofs.watcher_laws.looks_are_kept.Goals as goal

pub returns : goal.returns
returns c = looks_are_kept
