use Rattle.std.proofs.Common.{◌≡◌, sym, ◌∙◌, arith}
use Rattle.std.proofs.lemmas.Grind.{common_steps}
use Rattle.std.specs.Prelude.{sum_by}
use Rattle.call_history.proofs.Conservation.{pays_person, paid_to_persons, persons_fit}
use Rattle.call_history.proofs.balances.paid_to_all.Goals as goal

whole : (c : goal.After-loop-flow) → c.loop-flow.sum ≡ sum_by (pays_person c.args.asset) c.args.flows.now
whole c = grind (arith, common_steps, c.loop-flow.invariant.sum)

pub overflow_cast-result : goal.overflow_cast-result
overflow_cast-result c = omega (arith, whole c, persons_fit c.args.flows.now c.args.asset c.requires)

pub returns : goal.returns
returns c = whole c ∙ sym (paid_to_persons c.args.flows.now c.args.asset)
