use Rattle.std.proofs.Common.{◌≡◌, ◌++◌, take}
use Rattle.std.specs.List.{flat_map, AllByRecursion}
use Rattle.channel_values.specs.Chains.{FitsMark}
use Rattle.channel_values.specs.Spelling.{mark}
use Rattle.channel_values.proofs.chain.put_marks.Given as goal

abbrev pub invariant-loop-m : goal.invariant-loop-m
invariant-loop-m l = (l.out.items ≡ l.initial.out.items ++ flat_map mark (take l.m-index l.marks)) × AllByRecursion FitsMark (take l.m-index l.marks)
