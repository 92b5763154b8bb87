use Rattle.std.proofs.Common.{◌≡◌, ◌++◌, take}
use Rattle.std.specs.List.{flat_map, AllByRecursion}
use Rattle.channel_values.specs.Parts.{IsKey}
use Rattle.channel_values.proofs.writing.put_keys.Given as goal

abbrev pub invariant-loop-key : goal.invariant-loop-key
invariant-loop-key l = (l.out.items ≡ l.initial.out.items ++ flat_map (λ key. key) (take l.key-index l.keys)) × AllByRecursion IsKey (take l.key-index l.keys)
