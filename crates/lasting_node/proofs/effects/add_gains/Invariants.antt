use Rattle.std.proofs.Common.{◌≡◌, ◌++◌, take}
use Rattle.std.specs.Prelude.{flat_map}
use Rattle.channel_values.specs.Rules.{top_outcome}
use Rattle.lasting_node.specs.Effects.{gain}
use Rattle.lasting_node.proofs.effects.add_gains.Given as goal

abbrev pub invariant-loop-asset : goal.invariant-loop-asset
invariant-loop-asset l =
    l.effects.items ≡ l.fn.effects.items ++ flat_map (gain l.me l.channel (top_outcome l.states) l.after) (take l.asset-index l.after)
