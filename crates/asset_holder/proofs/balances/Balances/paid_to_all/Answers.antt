use Rattle.std.proofs.Common.{◌≡◌, List, sym, ◌∙◌, ap, arith}
use Rattle.std.specs.Prelude.{sum_by}
use Rattle.call_history.specs.Flows.{paid_to_all}
use Rattle.call_history.specs.declared.funds.Flow.{Flow}
use Rattle.call_history.proofs.Conservation.{paid_to_persons, all_paid_fits}
use Rattle.asset_holder.specs.Sums.{pays_person}
use Rattle.asset_holder.proofs.balances.Balances.paid_to_all.Goals as goal

received : (c : goal.After-sum) → c.sum.result ≡ paid_to_all c.args.self.now c.args.asset
received c =
    c.sum.ensures ∙ c.self.invariant.receipts.to_all c.args.asset
    ∙ ap (λ (flows : List Flow). sum_by (pays_person c.args.asset) flows) c.self.view_is
    ∙ sym (paid_to_persons c.args.self.now c.args.asset)

pub overflow_cast-result : goal.overflow_cast-result
overflow_cast-result c = omega (arith, received c, all_paid_fits c.args.self.now c.args.asset c.requires)

pub returns : goal.returns
returns c = received c
