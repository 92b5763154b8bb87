use Rattle.std.proofs.Common.{[], sym, arith}
use Rattle.std.proofs.lemmas.Result.{err_from_is_err_and}
use Rattle.channel_values.specs.Reading.{item_at, many_at}
use Rattle.channel_values.proofs.Loop.{goes_on, stops, is_done, total-push}
use Rattle.channel_values.proofs.flat.take_items.Goals as goal

pub returns-in_err-item : goal.returns-in_err-item
returns-in_err-item c =
    let p = err_from_is_err_and c.from_residual.result c.from_residual.ensures.1 in
    rw (p.1, p.2) (stops (item_at c.args.whole) c.in_err-item.field-0.0 c.items.items.items c.args.count c.items.counter c.items.rest.now c.as_slice.result.now (many_at (item_at c.args.whole) [] c.args.count c.args.bytes.now) c.as_slice.ensures.value c.items-test.true c.in_err-item.ensures.read c.items.invariant.2)

pub items-preserved : goal.items-preserved
items-preserved c =
    ((omega (arith, c.push.ensures.len, c.items.invariant.0)), (rw (c.in_ok-item.ensures.sum, c.push.ensures.items, c.as_slice.ensures.value) (sym (total-push c.items.items.items c.in_ok-item.item))), rw c.push.ensures.items (goes_on (item_at c.args.whole) c.items.items.items c.args.count c.items.counter c.items.rest.now c.in_ok-item.item c.in_ok-item.after.now c.as_slice.result.now (many_at (item_at c.args.whole) [] c.args.count c.args.bytes.now) c.as_slice.ensures.value c.items-test.true c.in_ok-item.ensures.read c.items.invariant.2))

pub returns : goal.returns
returns c = is_done (item_at c.args.whole) c.items.items.items c.args.count c.items.counter c.items.rest.now (many_at (item_at c.args.whole) [] c.args.count c.args.bytes.now) c.items-test.false c.items.invariant.2
