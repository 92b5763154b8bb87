-- What is an outcome is valid.
use Rattle.std.proofs.Common.{◌≡◌, List, Some, None, ap}
use Rattle.std.specs.Prelude.{is_ok, if◌then◌else◌}
use Rattle.channel_values.specs.declared.value.AssetOutcome.{AssetOutcome}
use Rattle.channel_values.specs.Outcomes.{IsOutcome}
use Rattle.channel_values.proofs.Format.{valid_again}
use Rattle.channel_values.proofs.Formats.{outcome_format}
use Rattle.funding_plans.specs.Limits.{if_valid}

pub outcomes_are_valid : (os : List AssetOutcome) → IsOutcome os → if_valid os ≡ Some os
outcomes_are_valid os valid = ap (λ read. if is_ok read then Some os else None) (valid_again outcome_format os valid)
