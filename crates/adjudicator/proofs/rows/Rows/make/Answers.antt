use Rattle.adjudicator.proofs.Tables.{nothing_dated}
use Rattle.adjudicator.proofs.rows.Rows.make.Goals as goal

pub invariant_of-result : goal.invariant_of-result
invariant_of-result c = rw (c.new.ensures.empty, c.make.ensures) nothing_dated
