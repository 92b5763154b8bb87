use Rattle.std.proofs.Common.{◌≡◌, take}
use Rattle.step_meanings.specs.People.{numbers_by}
use Rattle.step_meanings.proofs.people.People.numbers_by.Given as goal

abbrev pub invariant-loop-name : goal.invariant-loop-name
invariant-loop-name l = l.numbers.items ≡ numbers_by l.self (take l.name-index l.names)
