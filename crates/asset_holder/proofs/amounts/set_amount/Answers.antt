use Rattle.std.proofs.Common.{rules, ◌≡◌, ◌+◌, cond, ap, ◌∙◌}
use Rattle.std.specs.Prelude.{sum_by}
use Rattle.indexmap.specs.IndexMap.{insert_entry}
use Rattle.asset_holder.specs.Amounts.{amount_in, counted}
use Rattle.asset_holder.proofs.Totals.{total_insert}
use Rattle.asset_holder.proofs.amounts.set_amount.Goals as goal

pub returns-clause-totals : goal.returns-clause-totals
returns-clause-totals g c =
    let inserted : c.insert.new.self.entries ≡ insert_entry g.K.PartialEq.eq c.args.amounts.now.entries c.args.key c.args.amount = search rules in
    λ test alike.
    ap (λ es. sum_by (counted test) es + cond (test c.args.key) (amount_in g.K.PartialEq.eq c.args.amounts.now.entries c.args.key) 0) inserted
    ∙ total_insert g.K.PartialEq.eq test alike c.args.key c.args.amount c.args.amounts.now.entries
