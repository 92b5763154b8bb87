use Rattle.std.proofs.Common.{◌≡◌, List, ◌∙◌, ap, arith}
use Rattle.channel_values.specs.declared.value.Dest.TheVariants.{Person}
use Rattle.call_history.specs.Flows.{into, paid_in}
use Rattle.call_history.specs.declared.funds.Flow.{Flow}
use Rattle.call_history.proofs.Conservation.{paid_fits}
use Rattle.asset_holder.proofs.balances.Balances.paid.Goals as goal

received : (c : goal.After-sum) → c.sum.result ≡ paid_in c.args.self.now c.args.person.now c.args.asset
received c =
    c.sum.ensures ∙ c.self.invariant.receipts.to_persons (c.args.person.now, c.args.asset)
    ∙ ap (λ (flows : List Flow). into flows (Person c.args.person.now) c.args.asset) c.self.view_is

pub overflow_cast-result : goal.overflow_cast-result
overflow_cast-result c = omega (arith, received c, paid_fits c.args.self.now c.args.person.now c.args.asset c.requires)

pub returns : goal.returns
returns c = received c
