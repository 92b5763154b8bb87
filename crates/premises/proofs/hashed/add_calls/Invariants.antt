use Rattle.std.proofs.Common.{◌≡◌, ◌++◌, take, flat_map}
use Rattle.channel_safety.specs.Hashed.{of_call}
use Rattle.premises.proofs.hashed.add_calls.Given as goal

abbrev pub invariant-loop-call : goal.invariant-loop-call
invariant-loop-call l = l.strings.items ≡ l.initial.strings.items ++ flat_map of_call (take l.call-index l.calls)
