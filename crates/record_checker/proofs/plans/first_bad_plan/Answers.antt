use Rattle.std.proofs.Common.{◌≡◌, true, sym, ◌∙◌, arith, rules}
use Rattle.std.proofs.lemmas.Bool.{not-false}
use Rattle.record_checker.specs.Seen.{HasPlanSeen}
use Rattle.record_checker.proofs.Faults.{all_more, all_of_them}
use Rattle.record_checker.proofs.plans.first_bad_plan.Goals as goal

pub loop-ending-preserved : goal.loop-ending-preserved
loop-ending-preserved c =
    let t : c.in_ok-has_plan.field-0 ≡ true = search (rules, not-false, c.if-not-branch.false) in
    record {
      counted = omega (arith, c.loop-ending.invariant.counted);
      all = all_more (HasPlanSeen c.args.past.now) c.args.ends.now c.loop-ending.ending-index c.ending-item.result c.loop-ending-test.true c.ending-item.is c.loop-ending.invariant.all (sym c.in_ok-has_plan.ensures ∙ t);
    }

pub returns : goal.returns
returns c = all_of_them (HasPlanSeen c.args.past.now) c.args.ends.now c.loop-ending.ending-index c.loop-ending-test.false c.loop-ending.invariant.all
