use Rattle.std.proofs.Common.{◌≡◌, ◌≤◌, ◌+◌, ◌*◌, ◌++◌, length, take}
use Rattle.std.specs.List.{flat_map}
use Rattle.channel_exits.specs.Calls.{other_calls}
use Rattle.channel_exits.specs.Exits.{ended_in}
use Rattle.channel_exits.proofs.exits.put_other_of.Given as goal

abbrev pub invariant-loop-asset : goal.invariant-loop-asset
invariant-loop-asset l =
    (l.calls.items ≡ l.initial.calls.items ++ flat_map (other_calls (ended_in l.world) l.me l.parts l.part) (take l.asset-index l.assets))
    × (length l.calls.items ≤ length l.initial.calls.items + 19 * l.asset-index)
