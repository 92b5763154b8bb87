use Rattle.std.proofs.Common.{◌≡◌, ◌++◌, take}
use Rattle.call_history.specs.History.{newest_first}
use Rattle.network.specs.Watching.{StandsFor}
use Rattle.support_rules.specs.Real.{real}
use Rattle.watchtower.specs.Replay.{replay_lines}
use Rattle.watchtower.proofs.replaying.look_through.Given as goal

abbrev pub invariant-loop-entry : goal.invariant-loop-entry
invariant-loop-entry g l =
    StandsFor real (newest_first (take l.entry-index l.history)) l.tower.watching
    × (l.tower.clients ≡ l.fn.tower.clients)
    × (l.lines.items ≡ l.fn.lines.items ++ replay_lines real l.fn.tower.clients (newest_first (take l.entry-index l.history)))
