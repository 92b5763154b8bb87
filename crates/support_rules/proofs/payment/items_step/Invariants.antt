use Rattle.std.proofs.Common.{◌≡◌, length, drop}
use Rattle.channel_values.specs.Words.{first_along}
use Rattle.support_rules.specs.Rules as rules
use Rattle.support_rules.proofs.payment.items_step.Given as goal

abbrev pub invariant-loop-a : goal.invariant-loop-a
invariant-loop-a l = first_along (rules.item_fault l.people l.mover) (drop (length l.yielded) l.from) (drop (length l.yielded) l.to) ≡ first_along (rules.item_fault l.people l.mover) l.from l.to
