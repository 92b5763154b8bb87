use Rattle.support_rules.specs.Real.{real}
use Rattle.adjudicator.proofs.Paying.{claim_answered}
use Rattle.adjudicator.proofs.adjudicator.Adjudicator.claim_due.Goals as goal

pub returns-clause-answer : goal.returns-clause-answer
returns-clause-answer c =
    claim_answered real c.args.self.now _ _ _ c.args.call.now c.held-held.result
    c.is_unfinished.result c.is_unfinished-2.result c.ends_otherwise.result c.ends_otherwise-2.result c.claim_due.result
    c.self.view_is c.get-row.ensures.row c.get-target_row.ensures.row c.is_unfinished.ensures c.if-is_unfinished.false c.is_unfinished-2.ensures c.if-is_unfinished-2.false
    c.ends_otherwise.ensures c.if-ends_otherwise.false c.ends_otherwise-2.ensures c.if-ends_otherwise-2.false c.held-held.ensures c.claim_due.ensures.due
