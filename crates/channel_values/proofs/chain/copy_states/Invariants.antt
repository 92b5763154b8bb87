use Rattle.std.proofs.Common.{◌≡◌, take}
use Rattle.channel_values.proofs.chain.copy_states.Given as goal

abbrev pub invariant-loop-state : goal.invariant-loop-state
invariant-loop-state l = l.copies.items ≡ take l.state-index l.state-items
