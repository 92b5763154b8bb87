use Rattle.support_rules.specs.Real.{real}
use Rattle.adjudicator.proofs.Paying.{transfer_answered}
use Rattle.adjudicator.proofs.adjudicator.Adjudicator.transfer_due.Goals as goal

pub returns-clause-answer : goal.returns-clause-answer
returns-clause-answer c =
    transfer_answered real c.args.self.now _ _ c.args.call.now c.held-held.result c.is_unfinished.result c.ends_otherwise.result c.transfer_due.result
    c.self.view_is c.get-row.ensures.row c.is_unfinished.ensures c.if-is_unfinished.false c.ends_otherwise.ensures c.if-ends_otherwise.false c.held-held.ensures c.transfer_due.ensures.due
