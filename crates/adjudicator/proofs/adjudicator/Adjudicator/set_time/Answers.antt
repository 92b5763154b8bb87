use Rattle.std.proofs.Common.{refl, arith}
use Rattle.support_rules.specs.Real.{real}
use Rattle.adjudicator.proofs.Timing.{earlier, too_late, in_order, time_refused, time_set}
use Rattle.adjudicator.proofs.adjudicator.Adjudicator.set_time.Goals as goal

pub returns-then-to-self : goal.returns-then-to-self
returns-then-to-self c = rw (← c.self.view_is) (time_refused real _ c.args.to _ (earlier c.self.inside.time c.args.to (omega (arith, c.if-to-self.true))))

pub returns-then-to-gt-LAST_TIME : goal.returns-then-to-gt-LAST_TIME
returns-then-to-gt-LAST_TIME c = rw (← c.self.view_is) (time_refused real _ c.args.to _ (too_late c.self.inside.time c.args.to (omega (arith, c.if-to-self.false)) (omega arith)))

pub returns : goal.returns
returns c = rw (← c.self.view_is) (time_set real _ _ c.args.to (in_order c.self.inside.time c.args.to (omega (arith, c.if-to-self.false)) (omega arith)) refl refl refl refl)
