use Rattle.support_rules.proofs.payment.payment_step.Goals as goal

pub are_totals_alike-requires-clause-from : goal.are_totals_alike-requires-clause-from
are_totals_alike-requires-clause-from c = rw c.assets-before.ensures.value c.assets-before.ensures.valid.1.each

pub are_totals_alike-requires-clause-to : goal.are_totals_alike-requires-clause-to
are_totals_alike-requires-clause-to c = rw c.assets-after.ensures.value c.assets-after.ensures.valid.1.each
