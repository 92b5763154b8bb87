use Rattle.support_rules.specs.Real.{real}
use Rattle.adjudicator.proofs.Paying.{transfer_serves}
use Rattle.adjudicator.proofs.adjudicator.Adjudicator.transfer.Goals as goal

pub returns : goal.returns
returns c =
    transfer_serves real c.args.self.now _ c.args.call.now c.transfer_due-answer.result c.paid.result
    c.transfer_due-answer.ensures.answer c.paid.ensures c.pay.ensures.paid c.pay.ensures.same
