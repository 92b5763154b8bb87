use Rattle.std.proofs.Common.{◌≡◌, subst}
use Rattle.funding_plans.specs.Known.{FactsOf}
use Rattle.stage_tables.specs.Exiting.{exits_in}
use Rattle.stage_tables.proofs.Leaving.{exits_are}
use Rattle.stage_tables.proofs.exiting.exits.Goals as goal

pub returns-in-Ok-clause-value : goal.returns-in-Ok-clause-value
returns-in-Ok-clause-value c =
    subst (λ (f : FactsOf). c.in-Ok.calls.items ≡ exits_in f) c.facts.view_is
    (exits_are
    (record {
      me = c.facts.inside.me;
      plan = c.facts.inside.plan.now;
      view = c.facts.inside.view.now;
      places = c.facts.inside.places.now;
      chains = c.facts.inside.chains.now;
      known = c.facts.inside.known.now;
      goals = c.facts.inside.goals.now;
    })
    c.in-Ok.calls.items c.in-Ok.ensures.value.0 c.in-Ok.ensures.value.1)
