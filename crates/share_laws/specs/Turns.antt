-- What an entry or a line makes of the outcomes that a channel can end with, where nothing is paid.
use Rattle.std.specs.Prelude.{◌≡◌, ℕ, ◌≤◌, List, [], ◌∷◌, length, map, ◌⊎◌}
use Rattle.channel_values.specs.Parts.{FixedParts}
use Rattle.channel_values.specs.declared.value.AssetOutcome.{AssetOutcome}
use Rattle.channel_values.specs.Rules.{Rules}
use Rattle.support_rules.specs.May.{OneOf}
use Rattle.share_laws.specs.Bases.{NoWorse}

-- the channel didn't count; or its outcomes stay; or one that is no worse than one of them is final
abbrev pub Turns : (asset : ℕ) → List ℕ → List (List ℕ) → List ℕ → (before now : List (List AssetOutcome)) → Type 0
Turns asset me on n before now =
    (before ≡ []) ⊎ (now ≡ before)
    ⊎ ((p : List AssetOutcome) × (now ≡ p ∷ []) × OneOf (λ o. NoWorse asset me on n o p) before × (length before ≤ 2))

-- the channels' names
abbrev pub names : Rules → List FixedParts → List (List ℕ)
names r fs = map (λ f. r.named f) fs
