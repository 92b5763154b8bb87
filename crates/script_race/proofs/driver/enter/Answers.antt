use Rattle.std.proofs.Common.{subst}
use Rattle.call_history.specs.declared.call.Op.{Op}
use Rattle.script_race.proofs.Driving.{enters_op}
use Rattle.script_race.specs.Driving.{EntersOp}
use Rattle.script_race.proofs.driver.enter.Goals as goal

pub returns-in-Ok-enter-clause-entered : goal.returns-in-Ok-enter-clause-entered
returns-in-Ok-enter-clause-entered g c =
    subst (λ (op : Op). EntersOp op c.args.seat.now c.enter.new.seat) c.in-Ok.ensures
    (enters_op c.in-Ok.checked _ _ c.args.seat.now c.enter.new.seat c.requires.part c.enter.ensures.sound c.in-Ok-enter.ensures.ok)

pub returns-in-Ok-enter-clause-number : goal.returns-in-Ok-enter-clause-number
returns-in-Ok-enter-clause-number g c = c.in-Ok-enter.ensures.ok.number_is
