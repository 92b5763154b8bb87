-- What a history is over: signatures, digests and steps, of which only these functions are known here.
use Rattle.std.specs.Prelude.{◌≡◌, ◌≤◌, ◌*◌, ℕ, Bool, true, false, List, [], ◌∷◌, length, Option, Some, None}
use Rattle.std.specs.List.{slice_get}
use Rattle.channel_values.specs.Parts.{FixedParts, StateParts, IsState}
use Rattle.channel_values.specs.declared.chain.Signed.{Signed}
use Rattle.channel_values.specs.declared.fault.StepFault.{StepFault}
use Rattle.channel_values.specs.declared.value.AssetOutcome.{AssetOutcome}
use Rattle.channel_values.specs.Messages.{message_of_state, message_of_challenge}
use Rattle.channel_values.specs.Rows.{mover, last_of}

pub record Rules : Type 0 where
  -- whether the key verifies the signature on the message
  pub verifies : (key message signature : List ℕ) → Bool
  -- a channel's name
  pub named : FixedParts → List ℕ
  -- of a channel's name and a state
  pub digest : List ℕ → StateParts → List ℕ
  pub outcome_digest : List AssetOutcome → List ℕ
  -- the first broken rule of a step
  pub step : FixedParts → StateParts → StateParts → Option StepFault

-- how many participants there are
abbrev pub people : FixedParts → ℕ
people f = length f.keys

abbrev pub newest : List StateParts → Option StateParts
newest [] = None
newest (s ∷ rest) = Some (last_of s rest)

abbrev pub turn_of : Option StateParts → ℕ
turn_of None = 0
turn_of (Some s) = s.turn

abbrev pub outcome_or_none : Option StateParts → List AssetOutcome
outcome_or_none None = []
outcome_or_none (Some s) = s.outcome

abbrev pub digest_of : Rules → FixedParts → Option StateParts → List ℕ
digest_of r f None = []
digest_of r f (Some s) = r.digest (r.named f) s

-- the turn, the outcome and the digest of a chain's last state
abbrev pub top_turn : List StateParts → ℕ
top_turn states = turn_of (newest states)

abbrev pub top_outcome : List StateParts → List AssetOutcome
top_outcome states = outcome_or_none (newest states)

abbrev pub top_digest : Rules → FixedParts → List StateParts → List ℕ
top_digest r f states = digest_of r f (newest states)

-- a participant that isn't there signs nothing
abbrev pub signs : Rules → Option (List ℕ) → List ℕ → List ℕ → Bool
signs r None message signature = false
signs r (Some key) message signature = r.verifies key message signature

-- participant j's key verifies the state
abbrev pub signs_state : Rules → FixedParts → ℕ → StateParts → List ℕ → Bool
signs_state r f j s signature = signs r (slice_get f.keys j) (message_of_state (r.digest (r.named f) s)) signature

-- the mover's key verifies the state
abbrev pub is_signed_well : Rules → FixedParts → Signed → Bool
is_signed_well r f next = signs_state r f (mover (people f) next.state.turn) next.state next.signature

-- participant who's key verifies a challenge on the state; where there is none, nobody challenges
abbrev pub signs_challenge_on : Rules → FixedParts → Option StateParts → ℕ → List ℕ → Bool
signs_challenge_on r f None who signature = false
signs_challenge_on r f (Some s) who signature =
    signs r (slice_get f.keys who) (message_of_challenge (r.digest (r.named f) s) who) signature

-- the challenger's key verifies the challenge on a chain's last state
abbrev pub signs_challenge : Rules → FixedParts → List StateParts → ℕ → List ℕ → Bool
signs_challenge r f states who signature = signs_challenge_on r f (newest states) who signature

-- what every step keeps, whichever the application
pub record KeepsFinal (r : Rules) : Type 0 where
  pub stays : (f : FixedParts) (s t : StateParts) → r.step f s t ≡ None → s.is_final ≡ true → t.is_final ≡ true
  pub same : (f : FixedParts) (s t : StateParts) → IsState s → IsState t → r.step f s t ≡ None
      → t.is_final ≡ true → t.outcome ≡ s.outcome
  pub late : (f : FixedParts) (s t : StateParts) → r.step f s t ≡ None → t.is_final ≡ true → 2 * people f ≤ t.turn
