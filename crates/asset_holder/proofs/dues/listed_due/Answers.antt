use Rattle.std.proofs.Common.{◌-◌, ap, ◌∙◌}
use Rattle.channel_values.specs.Amounts.{amt, before, due}
use Rattle.channel_values.specs.Places.{dest_in, place_of}
use Rattle.call_history.specs.Dues.{rest_of}
use Rattle.asset_holder.specs.Payments.{amount_of_item}
use Rattle.asset_holder.proofs.LessPaid.{claimable_is_due, due_fits}
use Rattle.asset_holder.proofs.dues.listed_due.Goals as goal

pub returns-clause-value : goal.returns-clause-value
returns-clause-value c =
    c.claimable.ensures
    ∙ ap (λ xs. due (λ k. amt xs (dest_in c.args.list.now k)) c.args.position c.args.held) (c.as_slice.ensures.value ∙ c.rest_of-rest.ensures)
    ∙ claimable_is_due (amount_of_item c.args.paid.now c.args.target.now c.args.asset) c.args.items.now c.args.list.now c.args.position c.args.held

pub returns-clause-fits : goal.returns-clause-fits
returns-clause-fits c =
    let paid = amount_of_item c.args.paid.now c.args.target.now c.args.asset in
    due_fits paid c.args.items.now (place_of c.args.items.now (dest_in c.args.list.now c.args.position))
    (c.args.held - before (rest_of paid c.args.items.now c.args.list.now) c.args.position) c.claimable.result
    c.requires.items.1.each (returns-clause-value c)
