-- The digests of channels, persons, states and outcomes. Each is of a string that begins with a byte of its own.
use Rattle.std.specs.Prelude.{ℕ, List, ◌∷◌, ◌++◌}
use Rattle.sha2.specs.Sha256.{sha256}

-- the string that is hashed for a channel's fixed part
abbrev pub channel_string : List ℕ → List ℕ
channel_string fixed = 1 ∷ fixed

-- the string that is hashed for a person's public key
abbrev pub person_string : List ℕ → List ℕ
person_string key = 2 ∷ key

-- the string that is hashed for a state of a channel
abbrev pub state_string : List ℕ → List ℕ → List ℕ
state_string channel body = 3 ∷ channel ++ body

-- the string that is hashed for an outcome
abbrev pub outcome_string : List ℕ → List ℕ
outcome_string outcome = 4 ∷ outcome

unfoldable pub name_of_channel : List ℕ → List ℕ
name_of_channel fixed = sha256 (channel_string fixed)

unfoldable pub name_of_person : List ℕ → List ℕ
name_of_person key = sha256 (person_string key)

unfoldable pub digest_of_state : List ℕ → List ℕ → List ℕ
digest_of_state channel body = sha256 (state_string channel body)

unfoldable pub digest_of_outcome : List ℕ → List ℕ
digest_of_outcome outcome = sha256 (outcome_string outcome)
