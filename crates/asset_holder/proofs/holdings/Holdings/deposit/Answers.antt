use Rattle.std.proofs.Common.{refl, sym, ◌∙◌, ap, arith}
use Rattle.asset_holder.specs.Balances.{Balances, amount_deposited}
use Rattle.asset_holder.specs.Tables.{balances, AreBalanced}
use Rattle.asset_holder.proofs.Moving.{high_of, entered_of, held_fits, brought_balanced, brought_moved}
use Rattle.asset_holder.proofs.holdings.Holdings.deposit.Goals as goal

pub overflow_add-before : goal.overflow_add-before
overflow_add-before c =
    let balanced : AreBalanced c.args.self.now = rw (← c.self.view_is) c.self.invariant in
    omega (arith, c.if-amount-total.false, c.held-before.ensures, c.deposited-total.ensures.value, held_fits c.args.self.now balanced c.args.channel c.args.asset)

pub overflow_add-result : goal.overflow_add-result
overflow_add-result c =
    let balanced : AreBalanced c.args.self.now = rw (← c.self.view_is) c.self.invariant in
    omega (arith, c.if-amount-total.false, c.held-before.ensures, c.deposited-total.ensures.value, held_fits c.args.self.now balanced c.args.channel c.args.asset)

pub invariant_of-self : goal.invariant_of-self
invariant_of-self c =
    let raised =
    high_of (balances c.self.inside.held c.self.inside.paid c.self.inside.deposited) c.args.self.now c.self.view_is c.set_amount-2.new.amounts.entries c.args.channel c.args.asset c.args.amount c.held-before.result c.held-before.ensures
    c.set_amount-2.ensures.amounts c.set_amount-2.ensures.totals in
    let entered =
    entered_of (balances c.self.inside.held c.self.inside.paid c.self.inside.deposited) c.args.self.now c.self.view_is c.set_amount.new.amounts.entries c.args.asset c.args.amount c.deposited-total.result c.deposited-total.ensures.value
    c.set_amount.ensures.amounts in
    brought_balanced (balances c.self.inside.held c.self.inside.paid c.self.inside.deposited) (balances c.set_amount-2.new.amounts c.self.inside.paid c.set_amount.new.amounts) c.args.channel c.args.asset c.args.amount c.deposited-total.result raised refl entered c.self.invariant
    (c.deposited-total.ensures.value ∙ ap (λ (x : Balances). amount_deposited x c.args.asset) (sym c.self.view_is))
    (omega (arith, c.if-amount-total.false, c.ranges.amount.fits))

pub returns-clause-ok : goal.returns-clause-ok
returns-clause-ok c =
    let raised =
    high_of (balances c.self.inside.held c.self.inside.paid c.self.inside.deposited) c.args.self.now c.self.view_is c.set_amount-2.new.amounts.entries c.args.channel c.args.asset c.args.amount c.held-before.result c.held-before.ensures
    c.set_amount-2.ensures.amounts c.set_amount-2.ensures.totals in
    let entered =
    entered_of (balances c.self.inside.held c.self.inside.paid c.self.inside.deposited) c.args.self.now c.self.view_is c.set_amount.new.amounts.entries c.args.asset c.args.amount c.deposited-total.result c.deposited-total.ensures.value
    c.set_amount.ensures.amounts in
    rw (← c.self.view_is) (brought_moved (balances c.self.inside.held c.self.inside.paid c.self.inside.deposited) (balances c.set_amount-2.new.amounts c.self.inside.paid c.set_amount.new.amounts) c.args.channel c.args.asset c.args.amount c.deposited-total.result raised refl entered)
