use Rattle.std.proofs.Common.{◌≡◌, ◌≤◌, ◌+◌, ◌*◌, ◌++◌, length, take}
use Rattle.std.specs.List.{flat_map}
use Rattle.channel_exits.specs.Calls.{other_calls, of_each}
use Rattle.channel_exits.specs.Exits.{ended_in}
use Rattle.channel_exits.proofs.exits.put_all_others.Given as goal

abbrev pub invariant-loop-part : goal.invariant-loop-part
invariant-loop-part l =
    (l.calls.items ≡ l.initial.calls.items ++ flat_map (of_each (ended_in l.world) (other_calls (ended_in l.world) l.me l.parts)) (take l.part-index l.parts))
    × (length l.calls.items ≤ length l.initial.calls.items + 152 * l.part-index)
