use Rattle.std.proofs.Common.{sym, ◌∙◌}
use Rattle.std.proofs.lemmas.Slice.Zip.{zip_end}
use Rattle.support_rules.specs.Rules.{item_fault}
use Rattle.support_rules.proofs.Along.{first_along-over}
use Rattle.support_rules.proofs.payment.items_step.Goals as goal

pub returns : goal.returns
returns c =
    let n = zip_end c.args.from.now c.args.to.now c.loop-a.yielded c.into_iter-a-iterator.result c.loop-a.a-iterator c.next.new.self c.next.result (cc) (cc) c.loop-a.yielded_by c.in-None.is c.next.ensures.steps in
    sym (first_along-over (item_fault c.args.people.now c.args.mover) c.args.from.now c.args.to.now _ n) ∙ c.loop-a.invariant
