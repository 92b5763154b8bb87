use Rattle.std.proofs.Common.{◌≡◌, take}
use Rattle.script_steps.specs.Conditions.{keys_in}
use Rattle.script_steps.proofs.entering.keys_in.Given as goal

abbrev pub invariant-loop-name : goal.invariant-loop-name
invariant-loop-name l = l.keys.items ≡ keys_in l.context (take l.name-index l.names)
