use Rattle.std.proofs.Common.{◌≡◌, ℕ, ◌<◌, List, [], true, length, get_or, sym, ◌∙◌, ap, subst, arith}
use Rattle.std.specs.Str.{bytes_eq}
use Rattle.adjudicator.specs.Due.{deadline_in, AreOrdered}
use Rattle.adjudicator.proofs.Ordered.{ordered_removed, deadline_removed}
use Rattle.adjudicator.proofs.deadlines.Deadlines.remove.Goals as goal

pub invariant_of-self : goal.invariant_of-self
invariant_of-self c = subst AreOrdered (sym c.remove.ensures.items) (ordered_removed c.self.inside.rows.items c.place_of-place.result c.self.invariant)

pub returns-then-place-len-clause-deadlines : goal.returns-then-place-len-clause-deadlines
returns-then-place-len-clause-deadlines c = λ channel.
    let none : ℕ × List ℕ = (0, []) in
    let here : c.place_of-place.result < length c.self.inside.rows.items = omega (arith, c.if-place-len.true, c.len.ensures, c.deref.ensures.len, ap length c.deref.ensures.value) in
    let there : c.place_of-place.result < length c.deref.result.now = omega (arith, here, ap length c.deref.ensures.value) in
    let is : bytes_eq (get_or c.self.inside.rows.items c.place_of-place.result none).1 c.args.channel.now ≡ true =
    ap (λ rows. bytes_eq (get_or rows c.place_of-place.result none).1 c.args.channel.now) (sym c.deref.ensures.value) ∙ c.place_of-place.ensures.found none there in
    rw (← c.self.view_is) (ap (λ rows. deadline_in rows channel) c.remove.ensures.items
    ∙ deadline_removed c.self.inside.rows.items c.place_of-place.result none c.args.channel.now c.self.invariant.once here is channel)
