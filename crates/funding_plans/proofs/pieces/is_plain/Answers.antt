use Rattle.std.proofs.Common.{◌∙◌, ap}
use Rattle.channel_values.specs.declared.value.Shape.TheVariants.{Allocation}
use Rattle.funding_plans.specs.Behind.{is_end}
use Rattle.funding_plans.specs.Targets.{only}
use Rattle.funding_plans.proofs.Spells.{outcome_ends}
use Rattle.funding_plans.proofs.pieces.is_plain.Goals as goal

pub returns : goal.returns
returns c = c.is_end.ensures ∙ ap is_end c.behind_plain.ensures ∙ outcome_ends (only c.args.asset (Allocation c.args.items.now)) c.args.bytes.now
