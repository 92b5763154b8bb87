use Rattle.std.proofs.Common.{◌≡◌, ◌++◌}
use Rattle.std.specs.Prelude.{flat_map, map}
use Rattle.json_lines.specs.Json.{named}
use Rattle.json_lines.proofs.objects.push_names.Given as goal

abbrev pub invariant-loop-name : goal.invariant-loop-name
invariant-loop-name l = l.out.items ≡ l.initial.out.items ++ flat_map named (map (λ p. (p.0.now, p.1.now)) l.yielded)
