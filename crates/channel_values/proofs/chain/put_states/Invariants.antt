use Rattle.std.proofs.Common.{◌≡◌, ◌++◌, take}
use Rattle.std.specs.List.{flat_map, AllByRecursion}
use Rattle.channel_values.specs.Parts.{IsState}
use Rattle.channel_values.specs.Spelling.{state}
use Rattle.channel_values.proofs.chain.put_states.Given as goal

abbrev pub invariant-loop-s : goal.invariant-loop-s
invariant-loop-s l = (l.out.items ≡ l.initial.out.items ++ flat_map state (take l.s-index l.states)) × AllByRecursion IsState (take l.s-index l.states)
