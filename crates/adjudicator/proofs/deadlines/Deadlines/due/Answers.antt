use Rattle.std.proofs.Common.{◌≡◌, take, sym, ◌∙◌, ap, subst}
use Rattle.std.specs.List.{prefix_len}
use Rattle.std.specs.Prelude.{nat_le}
use Rattle.adjudicator.specs.Due.{deadline_in, due_at, AreOrdered}
use Rattle.adjudicator.proofs.Ordered.{due_is, ordered_due, deadline_due}
use Rattle.adjudicator.proofs.deadlines.Deadlines.due.Goals as goal

pub returns-clause-rows : goal.returns-clause-rows
returns-clause-rows c =
    let count : c.due_count-count.result ≡ prefix_len (λ row. nat_le row.0 c.args.now) c.self.inside.rows.items = c.due_count-count.ensures.value ∙ ap (λ rows. prefix_len (λ row. nat_le row.0 c.args.now) rows) c.as_slice-rows.ensures.value in
    let taken : take c.due_count-count.result c.as_slice-rows.result.now ≡ due_at c.self.inside.rows.items c.args.now =
    ap (λ rows. take c.due_count-count.result rows) c.as_slice-rows.ensures.value ∙ due_is c.args.now c.self.inside.rows.items c.due_count-count.result c.self.invariant count in
    rw (← c.self.view_is) taken

pub returns-clause-ordered : goal.returns-clause-ordered
returns-clause-ordered c =
    let count : c.due_count-count.result ≡ prefix_len (λ row. nat_le row.0 c.args.now) c.self.inside.rows.items = c.due_count-count.ensures.value ∙ ap (λ rows. prefix_len (λ row. nat_le row.0 c.args.now) rows) c.as_slice-rows.ensures.value in
    let taken : take c.due_count-count.result c.as_slice-rows.result.now ≡ due_at c.self.inside.rows.items c.args.now =
    ap (λ rows. take c.due_count-count.result rows) c.as_slice-rows.ensures.value ∙ due_is c.args.now c.self.inside.rows.items c.due_count-count.result c.self.invariant count in
    subst AreOrdered (sym taken) (ordered_due c.args.now c.self.inside.rows.items c.self.invariant)

pub returns-clause-deadlines : goal.returns-clause-deadlines
returns-clause-deadlines c = λ channel.
    let count : c.due_count-count.result ≡ prefix_len (λ row. nat_le row.0 c.args.now) c.self.inside.rows.items = c.due_count-count.ensures.value ∙ ap (λ rows. prefix_len (λ row. nat_le row.0 c.args.now) rows) c.as_slice-rows.ensures.value in
    let taken : take c.due_count-count.result c.as_slice-rows.result.now ≡ due_at c.self.inside.rows.items c.args.now =
    ap (λ rows. take c.due_count-count.result rows) c.as_slice-rows.ensures.value ∙ due_is c.args.now c.self.inside.rows.items c.due_count-count.result c.self.invariant count in
    rw (← c.self.view_is) (ap (λ rows. deadline_in rows channel) taken ∙ deadline_due c.args.now c.self.inside.rows.items c.self.invariant.once channel)
