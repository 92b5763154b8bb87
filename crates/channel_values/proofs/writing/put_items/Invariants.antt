use Rattle.std.proofs.Common.{◌≡◌, ◌++◌, take}
use Rattle.std.specs.List.{flat_map, AllByRecursion}
use Rattle.channel_values.specs.Outcomes.{IsItem}
use Rattle.channel_values.specs.Spelling.{item}
use Rattle.channel_values.proofs.writing.put_items.Given as goal

abbrev pub invariant-loop-i : goal.invariant-loop-i
invariant-loop-i l = (l.out.items ≡ l.initial.out.items ++ flat_map item (take l.i-index l.items)) × AllByRecursion IsItem (take l.i-index l.items)
