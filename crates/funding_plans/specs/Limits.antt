-- Outcomes that keep their limits.
use Rattle.std.specs.Prelude.{Bool, List, Option, Some, None, is_ok, if◌then◌else◌}
use Rattle.channel_values.specs.declared.value.AssetOutcome.{AssetOutcome}
use Rattle.channel_values.specs.Reading.{outcome_of}
use Rattle.channel_values.specs.Spelling.{outcome}

abbrev pub is_valid : List AssetOutcome → Bool
is_valid os = is_ok (outcome_of (outcome os))

abbrev pub if_valid : List AssetOutcome → Option (List AssetOutcome)
if_valid os = if is_valid os then Some os else None
