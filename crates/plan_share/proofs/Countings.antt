-- The channels that count, one by one.
use Rattle.std.proofs.Common.{◌≡◌, ℕ, List, [], ◌∷◌, Option, Some, None, refl}
use Rattle.channel_values.specs.declared.value.AssetOutcome.{AssetOutcome}
use Rattle.share_laws.specs.Places.{listed, counting_of}

-- one outcome, and a proposal if there is one
pub counting_of_both : (channel : List ℕ) (o : List AssetOutcome) (p : Option (List AssetOutcome)) →
    counting_of channel (o ∷ listed p) ≡ record { channel = channel; outcome = o; proposal = p } ∷ []
counting_of_both channel o None = refl
counting_of_both channel o (Some p) = refl
