use Rattle.std.proofs.Common.{refl}
use Rattle.asset_holder.specs.Tables.{balances}
use Rattle.asset_holder.proofs.Moving.{low_of, held_on_fits, paid_out_fits, held_on_balanced, held_on_moved, paid_out_balanced, paid_out_moved}
use Rattle.asset_holder.proofs.holdings.Holdings.move_funds.Goals as goal

pub raise-requires-clause-fits : goal.raise-requires-clause-fits
raise-requires-clause-fits c =
    let low = low_of (balances c.self.inside.held c.self.inside.paid c.self.inside.deposited) c.args.self.now c.self.view_is c.set_amount.new.amounts.entries c.args.from c.args.asset c.args.amount c.held.result
    c.requires.held c.held.ensures c.set_amount.ensures.amounts c.set_amount.ensures.totals in
    held_on_fits (balances c.self.inside.held c.self.inside.paid c.self.inside.deposited) c.self.invariant c.set_amount.new.amounts.entries c.args.from c.in-Channel.channel c.args.asset c.args.amount low

pub raise-requires-in-Person-clause-fits : goal.raise-requires-in-Person-clause-fits
raise-requires-in-Person-clause-fits c =
    let low = low_of (balances c.self.inside.held c.self.inside.paid c.self.inside.deposited) c.args.self.now c.self.view_is c.set_amount.new.amounts.entries c.args.from c.args.asset c.args.amount c.held.result
    c.requires.held c.held.ensures c.set_amount.ensures.amounts c.set_amount.ensures.totals in
    paid_out_fits (balances c.self.inside.held c.self.inside.paid c.self.inside.deposited) c.self.invariant c.set_amount.new.amounts.entries c.args.from c.in-Person.person c.args.asset c.args.amount low

pub invariant_of-self : goal.invariant_of-self
invariant_of-self c =
    let low = low_of (balances c.self.inside.held c.self.inside.paid c.self.inside.deposited) c.args.self.now c.self.view_is c.set_amount.new.amounts.entries c.args.from c.args.asset c.args.amount c.held.result
    c.requires.held c.held.ensures c.set_amount.ensures.amounts c.set_amount.ensures.totals in
    held_on_balanced (balances c.self.inside.held c.self.inside.paid c.self.inside.deposited) (balances c.raise.new.amounts c.self.inside.paid c.self.inside.deposited) c.set_amount.new.amounts.entries
    c.args.from c.in-Channel.channel c.args.asset c.args.amount low (record { amounts = c.raise.ensures.amounts; totals = c.raise.ensures.totals }) refl refl c.self.invariant

pub invariant_of-self-in-Person : goal.invariant_of-self-in-Person
invariant_of-self-in-Person c =
    let low = low_of (balances c.self.inside.held c.self.inside.paid c.self.inside.deposited) c.args.self.now c.self.view_is c.set_amount.new.amounts.entries c.args.from c.args.asset c.args.amount c.held.result
    c.requires.held c.held.ensures c.set_amount.ensures.amounts c.set_amount.ensures.totals in
    paid_out_balanced (balances c.self.inside.held c.self.inside.paid c.self.inside.deposited) (balances c.set_amount.new.amounts c.raise-in-Person.new.amounts c.self.inside.deposited)
    c.args.from c.in-Person.person c.args.asset c.args.amount low (record { amounts = c.raise-in-Person.ensures.amounts; totals = c.raise-in-Person.ensures.totals }) refl c.self.invariant

pub returns-in-Channel : goal.returns-in-Channel
returns-in-Channel c =
    let low = low_of (balances c.self.inside.held c.self.inside.paid c.self.inside.deposited) c.args.self.now c.self.view_is c.set_amount.new.amounts.entries c.args.from c.args.asset c.args.amount c.held.result
    c.requires.held c.held.ensures c.set_amount.ensures.amounts c.set_amount.ensures.totals in
    rw (← c.self.view_is, c.in-Channel.is) (held_on_moved (balances c.self.inside.held c.self.inside.paid c.self.inside.deposited) (balances c.raise.new.amounts c.self.inside.paid c.self.inside.deposited) c.set_amount.new.amounts.entries
    c.args.from c.in-Channel.channel c.args.asset c.args.amount low (record { amounts = c.raise.ensures.amounts; totals = c.raise.ensures.totals }) refl refl)

pub returns-in-Person : goal.returns-in-Person
returns-in-Person c =
    let low = low_of (balances c.self.inside.held c.self.inside.paid c.self.inside.deposited) c.args.self.now c.self.view_is c.set_amount.new.amounts.entries c.args.from c.args.asset c.args.amount c.held.result
    c.requires.held c.held.ensures c.set_amount.ensures.amounts c.set_amount.ensures.totals in
    rw (← c.self.view_is, c.in-Person.is) (paid_out_moved (balances c.self.inside.held c.self.inside.paid c.self.inside.deposited) (balances c.set_amount.new.amounts c.raise-in-Person.new.amounts c.self.inside.deposited)
    c.args.from c.in-Person.person c.args.asset c.args.amount low (record { amounts = c.raise-in-Person.ensures.amounts; totals = c.raise-in-Person.ensures.totals }) refl)
