use Rattle.support_rules.specs.Real.{real}
use Rattle.adjudicator.proofs.Paying.{claim_serves}
use Rattle.adjudicator.proofs.adjudicator.Adjudicator.claim.Goals as goal

pub returns : goal.returns
returns c =
    claim_serves real c.args.self.now _ c.args.call.now c.claim_due-answer.result c.paid.result
    c.claim_due-answer.ensures.answer c.paid.ensures c.pay.ensures.paid c.pay.ensures.same
