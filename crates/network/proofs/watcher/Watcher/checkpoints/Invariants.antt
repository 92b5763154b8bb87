use Rattle.std.proofs.Common.{◌≡◌, take}
use Rattle.network.specs.Watching.{is_stale, checkpoints}
use Rattle.network.proofs.watcher.Watcher.checkpoints.Given as goal

abbrev pub invariant-loop-held : goal.invariant-loop-held
invariant-loop-held l = l.calls.items ≡ checkpoints (is_stale l.self) (take l.held-index l.chains)
