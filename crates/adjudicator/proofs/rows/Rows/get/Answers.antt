use Rattle.std.proofs.Common.{◌≡◌, ◌<◌, ◌^◌, sym, subst}
use Rattle.std.specs.Prelude.{Option}
use Rattle.std.specs.Option.{option_map}
use Rattle.call_history.specs.Rows.{row_or_blank}
use Rattle.call_history.specs.declared.row.Row.{Row}
use Rattle.adjudicator.specs.Standing.{row_in}
use Rattle.adjudicator.proofs.rows.Rows.get.Goals as goal

pub returns-clause-small : goal.returns-clause-small
returns-clause-small c =
    let found : option_map (λ m. m.now) c.get.result ≡ row_in c.self.inside.rows.entries c.args.channel.now = c.get.ensures.value in
    subst (λ (o : Option Row). (row_or_blank o).turn < 2 ^ 48) (sym found) (c.self.invariant.turns c.args.channel.now)
