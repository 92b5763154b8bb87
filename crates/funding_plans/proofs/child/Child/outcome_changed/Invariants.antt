use Rattle.std.proofs.Common.{◌≡◌, ◌++◌, drop}
use Rattle.funding_plans.specs.Outcomes.{with_items, changed_items}
use Rattle.funding_plans.proofs.child.Child.outcome_changed.Given as goal

abbrev pub invariant-loop-o : goal.invariant-loop-o
invariant-loop-o l =
    l.assets.items ++ with_items l.self.asset (changed_items l.is_up l.self l.items) (drop l.o-index l.o-items)
    ≡ with_items l.self.asset (changed_items l.is_up l.self l.items) l.o-items
