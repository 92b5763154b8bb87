use Rattle.asset_holder.specs.Payments.{amount_of_item}
use Rattle.asset_holder.proofs.LessPaid.{rest_goes_on}
use Rattle.asset_holder.proofs.rests.rest_of.Goals as goal

pub loop-place-preserved : goal.loop-place-preserved
loop-place-preserved c =
    rest_goes_on (amount_of_item c.args.paid.now c.args.channel.now c.args.asset) c.args.items.now c.loop-place.rest.items c.push.new.self.items c.loop-place.place
    c.paid_of-paid.result c.saturating_sub.result c.loop-place-test.true c.loop-place.invariant.1 c.loop-place.invariant.2 c.paid_of-paid.ensures c.saturating_sub.ensures
    c.push.ensures.items
