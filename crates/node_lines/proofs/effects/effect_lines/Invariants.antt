use Rattle.std.proofs.Common.{◌≡◌, take}
use Rattle.std.specs.List.{flat_map}
use Rattle.node_lines.specs.Texts.{effect_text}
use Rattle.node_lines.proofs.effects.effect_lines.Given as goal

abbrev pub invariant-loop-effect : goal.invariant-loop-effect
invariant-loop-effect l = l.text.items ≡ flat_map (effect_text l.event) (take l.effect-index l.effects)
