use Rattle.std.proofs.Common.{◌≡◌, take}
use Rattle.std.specs.Prelude.{fold}
use Rattle.network.specs.Watching.{saw}
use Rattle.network.proofs.watcher.Watcher.follow.Given as goal

abbrev pub invariant-loop-entry : goal.invariant-loop-entry
invariant-loop-entry l = l.self ≡ fold saw l.fn.self (take l.entry-index l.entries)
