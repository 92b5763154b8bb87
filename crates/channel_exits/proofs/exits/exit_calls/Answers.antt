use Rattle.std.proofs.Common.{rules, List, ◌∙◌, ap}
use Rattle.funding_plans.specs.declared.plan.Part.{Part}
use Rattle.channel_exits.specs.Calls.{exit_calls}
use Rattle.channel_exits.specs.Exits.{ended_in}
use Rattle.channel_exits.proofs.exits.exit_calls.Goals as goal

pub returns-clause-value : goal.returns-clause-value
returns-clause-value c = (
  search rules,
  c.in_ok-calls.ensures.value
      ∙ ap (λ (parts : List Part). exit_calls (ended_in c.args.view.now) c.args.plan.now.me parts) c.as_slice-2.ensures,
)
