-- The data of consensus states.
use Rattle.std.specs.Prelude.{ℕ, ◌&&◌, List, [], ◌∷◌, Option, Some, None, is_ok, ◌==◌, nat_le, nat_lt, if◌then◌else◌}
use Rattle.channel_values.specs.Reading.{outcome_of}

-- votes that are still wanted, and the spelling of the outcome that is proposed
pub record Ballot : Type 0 where
  pub votes : ℕ
  pub proposal : List ℕ

-- what the data say among n participants, or nothing where they are no consensus data
abbrev pub ballot_of : ℕ → List ℕ → Option Ballot
ballot_of n [] = Some (record { votes = 0; proposal = [] })
ballot_of n (k ∷ bytes) =
    if nat_le 1 k && nat_lt k n && is_ok (outcome_of bytes)
    then Some (record { votes = k; proposal = bytes })
    else None

-- the data that say so
abbrev pub data_of : Ballot → List ℕ
data_of b = if b.votes == 0 then [] else b.votes ∷ b.proposal
