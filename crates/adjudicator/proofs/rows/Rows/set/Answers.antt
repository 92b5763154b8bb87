use Rattle.std.proofs.Common.{rules, ◌≡◌, List, ℕ}
use Rattle.std.specs.Prelude.{Ok}
use Rattle.adjudicator.specs.Standing.{row_in, row_after}
use Rattle.adjudicator.proofs.Tables.{dated_after}
use Rattle.adjudicator.proofs.rows.Rows.set.Goals as goal

pub invariant_of-self : goal.invariant_of-self
invariant_of-self c =
    let after : (channel : List ℕ) → row_in c.insert.new.self.entries channel ≡ row_after c.args.channel (Ok c.args.row) channel (row_in c.self.inside.rows.entries channel) = search rules in
    dated_after c.self.inside.rows.entries c.insert.new.self.entries c.self.inside.deadlines.rows c.date.new.deadlines.rows c.args.channel c.args.row c.self.invariant c.requires.small after c.date.ensures
