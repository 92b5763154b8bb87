use Rattle.std.proofs.Common.{◌≡◌, ◌+◌, ◌<◌, ◌^◌, ap, arith}
use Rattle.asset_holder.specs.Amounts.{amount_in}
use Rattle.asset_holder.specs.Payments.{same_item}
use Rattle.asset_holder.proofs.Paying.{paid_more}
use Rattle.asset_holder.proofs.paid.PaidItems.add.Goals as goal

pub overflow_add-before : goal.overflow_add-before
overflow_add-before c =
    let before : c.amount-before.result ≡ amount_in same_item c.self.inside.paid.entries (c.args.channel, c.args.asset, c.args.place) = c.amount-before.ensures in
    let fits : amount_in same_item c.self.inside.paid.entries (c.args.channel, c.args.asset, c.args.place) + c.args.more < 2 ^ 64 = rw (← c.self.view_is) at c.requires.fits in
    omega (arith, before, fits)

pub returns : goal.returns
returns c = λ channel asset place.
    let before : c.amount-before.result ≡ amount_in same_item c.self.inside.paid.entries (c.args.channel, c.args.asset, c.args.place) = c.amount-before.ensures in
    rw (← c.self.view_is) (paid_more c.self.inside.paid.entries c.set_amount.new.amounts.entries c.args.channel c.args.asset c.args.place (c.amount-before.result + c.args.more) c.args.more
    c.set_amount.ensures.amounts (ap (λ n. n + c.args.more) before) channel asset place)
