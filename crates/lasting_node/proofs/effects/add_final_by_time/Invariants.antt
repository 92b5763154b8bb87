use Rattle.std.proofs.Common.{◌≡◌, ◌++◌, take}
use Rattle.std.specs.Prelude.{flat_map}
use Rattle.lasting_node.specs.Effects.{final_by_time}
use Rattle.lasting_node.proofs.effects.add_final_by_time.Given as goal

abbrev pub invariant-loop-held : goal.invariant-loop-held
invariant-loop-held l =
    l.effects.items ≡ l.fn.effects.items ++ flat_map (final_by_time l.before l.after l.view) (take l.held-index l.chains)
