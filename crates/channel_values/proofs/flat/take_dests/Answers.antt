use Rattle.std.proofs.Common.{[], arith}
use Rattle.std.proofs.lemmas.Result.{err_from_is_err_and}
use Rattle.channel_values.specs.Reading.{listed_at, many_at}
use Rattle.channel_values.proofs.Loop.{goes_on, stops, is_done}
use Rattle.channel_values.proofs.flat.take_dests.Goals as goal

pub returns-in_err-to : goal.returns-in_err-to
returns-in_err-to c =
    let p = err_from_is_err_and c.from_residual.result c.from_residual.ensures.1 in
    rw (p.1, p.2) (stops (listed_at c.args.whole) c.in_err-to.field-0.0 c.dests.dests.items c.args.count c.dests.counter c.dests.rest.now c.as_slice.result.now (many_at (listed_at c.args.whole) [] c.args.count c.args.bytes.now) c.as_slice.ensures.value c.dests-test.true c.in_err-to.ensures c.dests.invariant.1)

pub dests-preserved : goal.dests-preserved
dests-preserved c =
    ((omega (arith, c.push.ensures.len, c.dests.invariant.0)), rw c.push.ensures.items (goes_on (listed_at c.args.whole) c.dests.dests.items c.args.count c.dests.counter c.dests.rest.now c.in_ok-to.to c.in_ok-to.after.now c.as_slice.result.now (many_at (listed_at c.args.whole) [] c.args.count c.args.bytes.now) c.as_slice.ensures.value c.dests-test.true c.in_ok-to.ensures c.dests.invariant.1))

pub returns : goal.returns
returns c = is_done (listed_at c.args.whole) c.dests.dests.items c.args.count c.dests.counter c.dests.rest.now (many_at (listed_at c.args.whole) [] c.args.count c.args.bytes.now) c.dests-test.false c.dests.invariant.1
