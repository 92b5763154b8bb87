use Rattle.std.proofs.Common.{◌≡◌, map, take}
use Rattle.channel_values.specs.Digests.{name_of_person}
use Rattle.support_rules.proofs.support.people_of.Given as goal

abbrev pub invariant-loop-key : goal.invariant-loop-key
invariant-loop-key l = l.people.items ≡ map name_of_person (take l.key-index l.key-items)
