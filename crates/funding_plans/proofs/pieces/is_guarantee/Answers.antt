use Rattle.std.proofs.Common.{◌∙◌, ap}
use Rattle.channel_values.specs.declared.value.Shape.TheVariants.{Guarantee}
use Rattle.funding_plans.specs.Behind.{is_end}
use Rattle.funding_plans.specs.Targets.{only}
use Rattle.funding_plans.proofs.Spells.{outcome_ends}
use Rattle.funding_plans.proofs.pieces.is_guarantee.Goals as goal

pub returns : goal.returns
returns c = c.is_end.ensures ∙ ap is_end c.behind_guarantee.ensures ∙ outcome_ends (only c.args.asset (Guarantee c.args.target.now c.args.dests.now)) c.args.bytes.now
