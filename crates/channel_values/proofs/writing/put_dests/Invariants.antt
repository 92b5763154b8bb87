use Rattle.std.proofs.Common.{◌≡◌, ◌++◌, take}
use Rattle.std.specs.List.{flat_map, AllByRecursion}
use Rattle.channel_values.specs.Outcomes.{IsDest}
use Rattle.channel_values.specs.Spelling.{dest}
use Rattle.channel_values.proofs.writing.put_dests.Given as goal

abbrev pub invariant-loop-to : goal.invariant-loop-to
invariant-loop-to l = (l.out.items ≡ l.initial.out.items ++ flat_map dest (take l.to-index l.dests)) × AllByRecursion IsDest (take l.to-index l.dests)
