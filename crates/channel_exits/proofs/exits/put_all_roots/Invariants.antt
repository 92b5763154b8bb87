use Rattle.std.proofs.Common.{◌≡◌, ◌≤◌, ◌+◌, ◌*◌, ◌++◌, length, take}
use Rattle.std.specs.List.{flat_map}
use Rattle.channel_exits.specs.Calls.{root_calls, of_each}
use Rattle.channel_exits.specs.Exits.{ended_in}
use Rattle.channel_exits.proofs.exits.put_all_roots.Given as goal

abbrev pub invariant-loop-part : goal.invariant-loop-part
invariant-loop-part l =
    (l.calls.items ≡ l.initial.calls.items ++ flat_map (of_each (ended_in l.world) (root_calls (ended_in l.world) l.me l.names)) (take l.part-index l.parts))
    × (length l.calls.items ≤ length l.initial.calls.items + 68 * l.part-index)
