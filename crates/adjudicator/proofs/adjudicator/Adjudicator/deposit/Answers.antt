use Rattle.std.proofs.Common.{refl}
use Rattle.support_rules.specs.Real.{real}
use Rattle.adjudicator.proofs.Paying.{deposit_serves}
use Rattle.adjudicator.proofs.adjudicator.Adjudicator.deposit.Goals as goal

pub returns : goal.returns
returns c =
    rw (← c.self.view_is) (deposit_serves real _ _ c.args.call.now c.deposit-answer.result c.held.result
    c.deposit-answer.ensures.answer c.held.ensures c.deposit-answer.ensures.ok c.deposit-answer.ensures.err refl refl refl refl)
