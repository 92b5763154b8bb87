use Rattle.std.proofs.Common.{◌≡◌, [], drop}
use Rattle.node_lines.specs.Outcomes.{asset_of}
use Rattle.node_lines.proofs.Many.{many_left}
use Rattle.node_lines.proofs.outcomes.assets_in.Given as goal

abbrev pub invariant-loop-value : goal.invariant-loop-value
invariant-loop-value l = many_left asset_of l.assets.items (drop l.value-index l.values) ≡ many_left asset_of [] l.values
