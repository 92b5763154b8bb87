use Rattle.std.proofs.Common.{◌-◌, ap, ◌∙◌}
use Rattle.channel_values.specs.Amounts.{before, due}
use Rattle.channel_values.specs.Places.{amount_at}
use Rattle.call_history.specs.Dues.{rest_at}
use Rattle.asset_holder.specs.Payments.{amount_of_item}
use Rattle.asset_holder.proofs.LessPaid.{length-less_paid, affordable_is_due, due_fits}
use Rattle.asset_holder.proofs.dues.item_due.Goals as goal

pub affordable-requires : goal.affordable-requires
affordable-requires c =
    rw (c.as_slice.ensures.value, c.rest_of-rest.ensures, length-less_paid (amount_of_item c.args.paid.now c.args.channel.now c.args.asset) 0 c.args.items.now) c.requires.index

pub returns-clause-value : goal.returns-clause-value
returns-clause-value c =
    c.affordable.ensures
    ∙ ap (λ xs. due (amount_at xs) c.args.index c.args.held) (c.as_slice.ensures.value ∙ c.rest_of-rest.ensures)
    ∙ affordable_is_due (amount_of_item c.args.paid.now c.args.channel.now c.args.asset) c.args.items.now c.args.index c.args.held

pub returns-clause-fits : goal.returns-clause-fits
returns-clause-fits c =
    let paid = amount_of_item c.args.paid.now c.args.channel.now c.args.asset in
    due_fits paid c.args.items.now c.args.index (c.args.held - before (rest_at paid c.args.items.now) c.args.index) c.affordable.result
    c.requires.items.1.each (returns-clause-value c)
