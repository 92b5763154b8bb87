use Rattle.std.proofs.Common.{[]}
use Rattle.std.proofs.lemmas.Result.{err_from_is_err_and}
use Rattle.channel_values.specs.Reading.{many_at}
use Rattle.channel_values.proofs.Loop.{goes_on, ends, is_done}
use Rattle.channel_values.proofs.many.take_many.Goals as goal

pub returns-in_err-value : goal.returns-in_err-value
returns-in_err-value g c =
    let p = err_from_is_err_and c.from_residual.result c.from_residual.ensures.1 in
    rw (p.1, p.2) (ends (g.T.Take.at c.args.whole) c.in_err-value.field-0.0 c.values.values.items c.args.count c.values.counter c.values.rest.now c.deref.result.now (many_at (g.T.Take.at c.args.whole) [] c.args.count c.args.bytes.now) c.deref.ensures.value c.values-test.true c.in_err-value.ensures c.values.invariant)

pub values-preserved : goal.values-preserved
values-preserved g c =
    rw c.in_ok-push.ensures.items (goes_on (g.T.Take.at c.args.whole) c.values.values.items c.args.count c.values.counter c.values.rest.now c.in_ok-value.value c.in_ok-value.after.now c.deref.result.now (many_at (g.T.Take.at c.args.whole) [] c.args.count c.args.bytes.now) c.deref.ensures.value c.values-test.true c.in_ok-value.ensures c.values.invariant)

pub returns : goal.returns
returns g c = is_done (g.T.Take.at c.args.whole) c.values.values.items c.args.count c.values.counter c.values.rest.now (many_at (g.T.Take.at c.args.whole) [] c.args.count c.args.bytes.now) c.values-test.false c.values.invariant
