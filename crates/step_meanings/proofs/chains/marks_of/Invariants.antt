use Rattle.std.proofs.Common.{◌≡◌, take, map}
use Rattle.step_meanings.specs.Chains.{mark_of}
use Rattle.step_meanings.proofs.chains.marks_of.Given as goal

abbrev pub invariant-loop-key : goal.invariant-loop-key
invariant-loop-key l = l.marks.items ≡ map (mark_of l.listed) (take l.key-index l.keys)
