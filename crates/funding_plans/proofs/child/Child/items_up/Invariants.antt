use Rattle.std.proofs.Common.{◌≡◌, ◌++◌, map, drop}
use Rattle.funding_plans.specs.Outcomes.{lowered}
use Rattle.funding_plans.proofs.child.Child.items_up.Given as goal

abbrev pub invariant-loop-item : goal.invariant-loop-item
invariant-loop-item l = l.changed.items ++ map (lowered l.self) (drop l.item-index l.items) ≡ map (lowered l.self) l.items
