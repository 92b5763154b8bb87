use Rattle.std.proofs.Common.{◌≡◌, ◌++◌, take}
use Rattle.std.specs.Prelude.{flat_map}
use Rattle.json_lines.specs.Json.{escape}
use Rattle.json_lines.proofs.quoting.push_quoted.Given as goal

abbrev pub invariant-loop-byte : goal.invariant-loop-byte
invariant-loop-byte l = l.out.items ≡ l.initial.out.items ++ flat_map escape (take l.byte-index l.bytes)
