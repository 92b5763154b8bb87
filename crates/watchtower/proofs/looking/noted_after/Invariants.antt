use Rattle.std.proofs.Common.{◌≡◌, [], take}
use Rattle.std.specs.Prelude.{fold}
use Rattle.call_history.specs.Rows.{fixed_of}
use Rattle.watchtower.specs.Looking.{noting, noting_of}
use Rattle.watchtower.proofs.looking.noted_after.Given as goal

abbrev pub invariant-loop-channel : goal.invariant-loop-channel
invariant-loop-channel l = l.noted.keys ≡ fold (noting l.watcher) [] (take l.channel-index l.channels)

abbrev pub invariant-loop-entry : goal.invariant-loop-entry
invariant-loop-entry l = l.noted.keys ≡ fold (λ seen e. noting_of l.watcher seen (fixed_of e.op)) (fold (noting l.watcher) [] l.before.keys) (take l.entry-index l.entries)
