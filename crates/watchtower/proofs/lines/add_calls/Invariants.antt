use Rattle.std.proofs.Common.{◌≡◌, ◌++◌, take}
use Rattle.std.specs.Prelude.{flat_map}
use Rattle.watchtower.specs.Replay.{call_lines}
use Rattle.watchtower.proofs.lines.add_calls.Given as goal

abbrev pub invariant-loop-call : goal.invariant-loop-call
invariant-loop-call l = l.lines.items ≡ l.fn.lines.items ++ flat_map (call_lines l.number l.client) (take l.call-index l.calls)
