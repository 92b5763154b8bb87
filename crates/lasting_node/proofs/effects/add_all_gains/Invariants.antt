use Rattle.std.proofs.Common.{◌≡◌, ◌++◌, take}
use Rattle.std.specs.Prelude.{flat_map}
use Rattle.lasting_node.specs.Effects.{gain_over}
use Rattle.lasting_node.proofs.effects.add_all_gains.Given as goal

abbrev pub invariant-loop-held : goal.invariant-loop-held
invariant-loop-held l =
    l.effects.items ≡ l.fn.effects.items ++ flat_map (gain_over l.me l.channel l.after) (take l.held-index l.chains)
