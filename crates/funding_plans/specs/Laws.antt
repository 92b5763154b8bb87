-- What the amounts that are found for the ends mean.
use Rattle.std.specs.Prelude.{◌≡◌, ℕ, ◌+◌, List, Some}
use Rattle.channel_values.specs.declared.value.AssetOutcome.{AssetOutcome}
use Rattle.channel_values.specs.Spelling.{outcome}
use Rattle.funding_plans.specs.declared.terms.Terms.{Terms}
use Rattle.funding_plans.specs.Targets.{apart, apart_in}

-- they are found where they make up the total and the outcome is the one that has them
abbrev pub FoundMeans : Type 0
FoundMeans =
    (v : Terms) (os : List AssetOutcome) (ab : ℕ × ℕ) → apart_in v os ≡ Some ab →
    (ab.0 + ab.1 ≡ v.total) × (outcome os ≡ outcome (apart v ab))

abbrev pub AreFound : Type 0
AreFound = (v : Terms) (ab : ℕ × ℕ) → ab.0 + ab.1 ≡ v.total → apart_in v (apart v ab) ≡ Some ab
