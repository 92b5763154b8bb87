-- What a participant signs in a consensus channel when it works toward an outcome.
use Rattle.std.specs.Prelude.{◌≡◌, ℕ, ◌≤◌, false, List, [], ◌∷◌, Option, Some, ◌⊎◌}
use Rattle.channel_values.specs.Outcomes.{IsOutcome}
use Rattle.channel_values.specs.Parts.{FixedParts, StateParts}
use Rattle.channel_values.specs.declared.value.AssetOutcome.{AssetOutcome}
use Rattle.call_history.specs.Mode.{is_final}
use Rattle.channel_values.specs.Rules.{Rules}
use Rattle.call_history.specs.History.{mode}
use Rattle.call_history.specs.declared.entry.Entry.{Entry}
use Rattle.channel_safety.specs.Journals.{In, Line}
use Rattle.support_rules.specs.Toward.{wanted_toward}
use Rattle.share_laws.specs.Places.{Order, plan, possible, outcomes_of, share, Funded}
use Rattle.share_laws.specs.Plans.{IsPlan}
use Rattle.share_laws.specs.Signatures.{signing, IsOwn, IsFairAt}

-- The move toward a target can end with the outcome that it follows, or with the target.
abbrev pub MovesEndAsWanted : Type 0
MovesEndAsWanted =
    (n : ℕ) (target : List AssetOutcome) → IsOutcome target
    → (s : StateParts) (own : Option StateParts) (t : StateParts)
    → wanted_toward n target s own ≡ Some t → (o : List AssetOutcome) → In o (outcomes_of t)
    → (o ≡ s.outcome) ⊎ (o ≡ target)

-- A participant that signs the move toward a fair target, after a state whose outcome the channel could end with,
-- keeps its share where its plan is funded.
abbrev pub VotesKeepShares : Type 0
VotesKeepShares =
    (r : Rules) (me : List ℕ) (orders : ℕ → Order) (past : List Entry) (front : List Line)
    → (f : FixedParts) (n : ℕ) (target : List AssetOutcome) (s : StateParts) (own : Option StateParts)
    → (state : StateParts) (signature : List ℕ) (adds : List FixedParts)
    → IsOwn r front f → IsPlan (plan orders front) → Funded r me orders past front
    → is_final (mode r (r.named f) past) ≡ false
    → (possible r past (signing r past f state signature adds ∷ front) f ≡ [] → possible r past front f ≡ [])
    → IsOutcome target → wanted_toward n target s own ≡ Some state → In s.outcome (possible r past front f)
    → ((asset : ℕ) → IsFairAt r me orders past front f asset target)
    → (asset : ℕ) → share r me orders past front asset
    ≤ share r me orders past (signing r past f state signature adds ∷ front) asset
