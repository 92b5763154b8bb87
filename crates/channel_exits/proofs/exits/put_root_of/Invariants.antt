use Rattle.std.proofs.Common.{◌≡◌, ◌≤◌, ◌+◌, ◌*◌, ◌++◌, length, take}
use Rattle.std.specs.List.{flat_map}
use Rattle.funding_plans.specs.declared.plan.Part.TheVariants.{Root}
use Rattle.channel_exits.specs.Calls.{root_calls}
use Rattle.channel_exits.specs.Exits.{ended_in}
use Rattle.channel_exits.proofs.exits.put_root_of.Given as goal

abbrev pub invariant-loop-asset : goal.invariant-loop-asset
invariant-loop-asset l =
    (l.calls.items ≡ l.initial.calls.items ++ flat_map (root_calls (ended_in l.world) l.me l.names (Root l.root)) (take l.asset-index l.assets))
    × (length l.calls.items ≤ length l.initial.calls.items + 17 * l.asset-index)
