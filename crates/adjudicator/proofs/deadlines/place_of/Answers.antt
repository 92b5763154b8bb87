use Rattle.std.proofs.Common.{arith}
use Rattle.adjudicator.proofs.Ordered.{nowhere_none}
use Rattle.adjudicator.proofs.deadlines.place_of.Goals as goal

pub returns-clause-absent : goal.returns-clause-absent
returns-clause-absent c = λ le. nowhere_none c.args.rows.now c.args.channel.now (λ k d lt. c.loop-place.invariant.1 k d (omega (arith, c.loop-place-test.false)) lt)
