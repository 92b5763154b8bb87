use Rattle.std.proofs.Common.{◌∷◌, sym, subst}
use Rattle.call_history.specs.History.{newest_first}
use Rattle.call_history.specs.declared.call.Op.{Op}
use Rattle.support_rules.specs.Real.{real}
use Rattle.adjudicator.specs.Standing.{StandsFor}
use Rattle.adjudicator.proofs.SharedSteps.{stands_later}
use Rattle.adjudicator.proofs.shared.AdjudicatorOneThread.step.Goals as goal

pub returns-clause-stands : goal.returns-clause-stands
returns-clause-stands c = λ h st.
    stands_later real h (record { number = c.args.number; by = c.args.by; op = c.into_op.result; reply = c.apply_checked-reply.result }) c.apply_checked-reply.new.self
    (subst (λ (o : Op). StandsFor real (record { number = c.args.number; by = c.args.by; op = o; reply = c.apply_checked-reply.result } ∷ newest_first h) c.apply_checked-reply.new.self) (sym c.into_op.ensures)
    (c.apply_checked-reply.ensures.stands (newest_first h) c.args.number c.args.by st))
