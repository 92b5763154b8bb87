use Rattle.std.proofs.Common.{take}
use Rattle.std.specs.List.{AllByRecursion}
use Rattle.channel_values.specs.Parts.{IsState}
use Rattle.call_history.proofs.valid.states_are_valid.Given as goal

abbrev pub invariant-loop-state : goal.invariant-loop-state
invariant-loop-state l = AllByRecursion IsState (take l.state-index l.states)
