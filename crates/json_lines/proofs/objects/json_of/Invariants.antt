use Rattle.std.proofs.Common.{◌≡◌}
use Rattle.std.specs.Prelude.{flat_map, map}
use Rattle.json_lines.specs.Json.{object_line}
use Rattle.json_lines.proofs.objects.json_of.Given as goal

abbrev pub invariant-loop-line : goal.invariant-loop-line
invariant-loop-line l = l.out.items ≡ flat_map object_line (map (λ p. p.now) l.yielded)
