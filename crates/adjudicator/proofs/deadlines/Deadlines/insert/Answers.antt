use Rattle.std.proofs.Common.{◌≡◌, ℕ, List, None, length, sym, ◌∙◌, ap, subst, arith}
use Rattle.std.specs.List.{prefix_len, insert}
use Rattle.std.specs.Ordering.{is_lt}
use Rattle.std.specs.Prelude.{is_ok, if◌then◌else◌}
use Rattle.adjudicator.specs.Due.{deadline_in, row_cmp, AreOrdered}
use Rattle.adjudicator.proofs.Ordered.{ordered_placed, deadline_inserted}
use Rattle.adjudicator.proofs.deadlines.Deadlines.insert.Goals as goal

pub insert-requires : goal.insert-requires
insert-requires c = omega (arith, c.count_before-place.ensures.within, c.deref.ensures.len, ap length c.deref.ensures.value)

pub invariant_of-self : goal.invariant_of-self
invariant_of-self c =
    let x : ℕ × List ℕ = (c.args.deadline, c.args.channel) in
    let none : deadline_in c.self.inside.rows.items c.args.channel ≡ None = rw (← c.self.view_is) at c.requires.absent in
    let place : c.count_before-place.result ≡ prefix_len (λ y. is_lt (row_cmp y x)) c.self.inside.rows.items =
    c.count_before-place.ensures.value ∙ ap (λ rows. prefix_len (λ y. is_lt (row_cmp y x)) rows) c.deref.ensures.value in
    let inserted : c.insert.new.self.items ≡ insert c.self.inside.rows.items (prefix_len (λ y. is_lt (row_cmp y x)) c.self.inside.rows.items) x =
    c.insert.ensures.items ∙ ap (λ r. if is_ok r then insert c.self.inside.rows.items c.count_before-place.result x else c.self.inside.rows.items) c.unwrap.ensures ∙ ap (λ n. insert c.self.inside.rows.items n x) place in
    subst AreOrdered (sym inserted) (ordered_placed x c.self.inside.rows.items none c.self.invariant)

pub returns : goal.returns
returns c = λ channel.
    let x : ℕ × List ℕ = (c.args.deadline, c.args.channel) in
    let none : deadline_in c.self.inside.rows.items c.args.channel ≡ None = rw (← c.self.view_is) at c.requires.absent in
    let place : c.count_before-place.result ≡ prefix_len (λ y. is_lt (row_cmp y x)) c.self.inside.rows.items =
    c.count_before-place.ensures.value ∙ ap (λ rows. prefix_len (λ y. is_lt (row_cmp y x)) rows) c.deref.ensures.value in
    let inserted : c.insert.new.self.items ≡ insert c.self.inside.rows.items (prefix_len (λ y. is_lt (row_cmp y x)) c.self.inside.rows.items) x =
    c.insert.ensures.items ∙ ap (λ r. if is_ok r then insert c.self.inside.rows.items c.count_before-place.result x else c.self.inside.rows.items) c.unwrap.ensures ∙ ap (λ n. insert c.self.inside.rows.items n x) place in
    rw (← c.self.view_is) (ap (λ rows. deadline_in rows channel) inserted ∙ deadline_inserted x c.self.inside.rows.items none channel)
