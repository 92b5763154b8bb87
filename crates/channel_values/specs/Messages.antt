-- The strings that are signed. Each begins with a byte of its own, which begins no string that is hashed.
use Rattle.std.specs.Prelude.{ℕ, List, [], ◌∷◌, ◌++◌}

-- what is signed for a state, by its digest
unfoldable pub message_of_state : List ℕ → List ℕ
message_of_state digest = 5 ∷ digest

-- what is signed for a challenge, by the digest of its last state and the challenger's position
unfoldable pub message_of_challenge : List ℕ → ℕ → List ℕ
message_of_challenge digest challenger = 6 ∷ digest ++ challenger ∷ []
