-- The consensus move of a participant that works toward an outcome.
use Rattle.std.specs.Prelude.{◌≡◌, ◌≤◌, ℕ, ◌+◌, ◌-◌, ◌^◌, Bool, false, not, ◌&&◌, ◌||◌, List, [], Option, Some, None, ◌==◌, if◌then◌else◌}
use Rattle.std.specs.Option.{option_map}
use Rattle.std.specs.Str.{bytes_eq}
use Rattle.channel_values.specs.declared.value.AssetOutcome.{AssetOutcome}
use Rattle.channel_values.specs.Parts.{StateParts}
use Rattle.channel_values.specs.Outcomes.{IsOutcome}
use Rattle.channel_values.specs.Spelling.{outcome}
use Rattle.support_rules.specs.Ballots.{Ballot, ballot_of, data_of}
use Rattle.support_rules.specs.Rules.{is_same_outcome, consensus_fault}

-- an outcome, and the ballot beside it
pub record Move : Type 0 where
  pub outcome : List AssetOutcome
  pub ballot : Ballot

abbrev pub no_votes : Ballot
no_votes = record { votes = 0; proposal = [] }

abbrev pub has_no_votes : Option Ballot → Bool
has_no_votes None = false
has_no_votes (Some b) = b.votes == 0

-- settled on an outcome: the state signed last has it, without votes
abbrev pub is_settled : ℕ → List AssetOutcome → Option StateParts → Bool
is_settled n target None = false
is_settled n target (Some s) = is_same_outcome s.outcome target && has_no_votes (ballot_of n s.app_bytes)

-- the target is proposed: vote, or vote last
abbrev pub voted : List AssetOutcome → List AssetOutcome → Ballot → Move
voted target now b =
    if b.votes == 1
    then record { outcome = target; ballot = no_votes }
    else record { outcome = now; ballot = record { votes = b.votes - 1; proposal = outcome target } }

-- vote for the target, veto another proposal, propose the target, or pass until settled
abbrev pub wanted_move : ℕ → List AssetOutcome → List AssetOutcome → Ballot → Bool → Option Move
wanted_move n target now b settled =
    if not (b.votes == 0)
    then (if bytes_eq b.proposal (outcome target)
    then Some (voted target now b)
    else Some (record { outcome = now; ballot = no_votes }))
    else (if not (is_same_outcome now target)
    then Some (record { outcome = now; ballot = record { votes = n - 1; proposal = outcome target } })
    else (if settled then None else Some (record { outcome = now; ballot = no_votes })))

abbrev pub moved : StateParts → Move → StateParts
moved s m = record { turn = s.turn + 1; is_final = false; outcome = m.outcome; app_bytes = data_of m.ballot }

abbrev pub wanted_on : ℕ → List AssetOutcome → StateParts → Bool → Option Ballot → Option Move
wanted_on n target s settled None = None
wanted_on n target s settled (Some b) = wanted_move n target s.outcome b settled

-- the state that is wanted next toward the target, of n participants, after s
unfoldable pub wanted_toward : ℕ → List AssetOutcome → StateParts → Option StateParts → Option StateParts
wanted_toward n target s own =
    if s.is_final || s.turn == 2 ^ 48 - 1
    then None
    else option_map (moved s) (wanted_on n target s (is_settled n target own) (ballot_of n s.app_bytes))

-- What is wanted is a step of the application.
abbrev pub WantedIsStep : Type 0
WantedIsStep =
    (n : ℕ) → 2 ≤ n → (target : List AssetOutcome) → IsOutcome target →
    (s : StateParts) (own : Option StateParts) (t : StateParts) →
    wanted_toward n target s own ≡ Some t → consensus_fault n s t ≡ None
