use Rattle.std.proofs.Common.{◌≡◌, ◌++◌, drop}
use Rattle.funding_plans.specs.Outcomes.{items_down}
use Rattle.funding_plans.proofs.child.Child.items_down.Given as goal

abbrev pub invariant-loop-item : goal.invariant-loop-item
invariant-loop-item l = l.changed.items ++ items_down l.self (drop l.item-index l.items) ≡ items_down l.self l.items
