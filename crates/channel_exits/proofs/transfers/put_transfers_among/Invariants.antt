use Rattle.std.proofs.Common.{◌≡◌, ◌≤◌, ◌+◌, ◌++◌, length, take}
use Rattle.std.specs.List.{flat_map}
use Rattle.channel_exits.specs.Calls.{transfer_among}
use Rattle.channel_exits.specs.Exits.{ended_in}
use Rattle.channel_exits.proofs.transfers.put_transfers_among.Given as goal

abbrev pub invariant-loop-item : goal.invariant-loop-item
invariant-loop-item l =
    (l.calls.items ≡ l.initial.calls.items ++ flat_map (λ item. transfer_among (ended_in l.world) l.root l.names l.asset item.to) (take l.item-index l.items))
    × (length l.calls.items ≤ length l.initial.calls.items + l.item-index)
