use Rattle.std.proofs.Common.{◌≡◌, true, false, rules, tests}
use Rattle.std.proofs.lemmas.Iterator.{YieldsList-from_slice, YieldsList-from_zip, cases_from_all}
use Rattle.support_rules.specs.Rules.{are_assets_alike}
use Rattle.support_rules.proofs.Along.{all_along-from_all}
use Rattle.support_rules.proofs.payment.are_assets_alike.Goals as goal

pub returns-then-from-to : goal.returns-then-from-to
returns-then-from-to c =
    all_along-from_all (are_assets_alike c.args.people.now) c.args.from.now c.args.to.now c.all.result (search rules)
    (cases_from_all c.all.new.self _ c.all.result (λ q. are_assets_alike c.args.people.now q.0 q.1 ≡ true) (λ q. are_assets_alike c.args.people.now q.0 q.1 ≡ false) c.all.ensures.ran
    (YieldsList-from_zip (YieldsList-from_slice c.args.from.now cc) (YieldsList-from_slice c.args.to.now cc))
    (λ x q k. search (rules, tests)) (λ x q k. search (rules, tests)))
