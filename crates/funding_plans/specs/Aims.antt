-- Outcomes that are described and not yet built.
use Rattle.std.specs.Prelude.{List}
use Rattle.channel_values.specs.declared.value.AssetOutcome.{AssetOutcome}
use Rattle.funding_plans.specs.declared.aim.AimKind.{AimKind}
use Rattle.funding_plans.specs.declared.aim.AimKind.TheVariants.{Given, Moved, Apart, Together, Guaranteed}
use Rattle.funding_plans.specs.Targets.{apart, together, guarantee}

abbrev pub outcome_of_kind : AimKind → List AssetOutcome
outcome_of_kind (Given o) = o.now
outcome_of_kind (Moved o) = o
outcome_of_kind (Apart v a b) = apart v (a, b)
outcome_of_kind (Together v) = together v
outcome_of_kind (Guaranteed v joint end) = guarantee v joint end
