-- Laws over the definitions alone.
use Rattle.std.specs.Prelude.{◌≡◌, ◌≢◌, ℕ, List, ◌∷◌, length, Contains}
use Rattle.sha2.specs.Sha256.{sha256}
use Rattle.channel_values.specs.Digests.{channel_string, person_string, state_string, outcome_string, name_of_channel, name_of_person, digest_of_state, digest_of_outcome}
use Rattle.channel_values.specs.Messages.{message_of_state, message_of_challenge}
use Rattle.channel_values.specs.Collisions.{NoneCollide}

-- among the strings, a digest says what it is the digest of
pub record Tells (strings : List (List ℕ)) : Type 0 where
  pub channels : (a b : List ℕ) → Contains strings (channel_string a) → Contains strings (channel_string b)
      → name_of_channel a ≡ name_of_channel b → a ≡ b
  pub persons : (a b : List ℕ) → Contains strings (person_string a) → Contains strings (person_string b)
      → name_of_person a ≡ name_of_person b → a ≡ b
  pub states : (c d a b : List ℕ) → length c ≡ 32 → length d ≡ 32 → Contains strings (state_string c a) → Contains strings (state_string d b)
      → digest_of_state c a ≡ digest_of_state d b → (c ≡ d) × (a ≡ b)
  pub outcomes : (a b : List ℕ) → Contains strings (outcome_string a) → Contains strings (outcome_string b)
      → digest_of_outcome a ≡ digest_of_outcome b → a ≡ b
  -- two strings that begin with different bytes, as those of a channel and of a person
  pub kinds : (i j : ℕ) (a b : List ℕ) → i ≢ j → Contains strings (i ∷ a) → Contains strings (j ∷ b) → sha256 (i ∷ a) ≢ sha256 (j ∷ b)

-- where none of the strings collide, their digests tell them apart
abbrev pub DigestsTell : Type 0
DigestsTell = (strings : List (List ℕ)) → NoneCollide strings → Tells strings

-- a string that is signed says what it is signed for, with no premise on digests
pub record MessagesTell : Type 0 where
  pub states : (a b : List ℕ) → message_of_state a ≡ message_of_state b → a ≡ b
  pub challenges : (a b : List ℕ) (i j : ℕ) → length a ≡ 32 → length b ≡ 32
      → message_of_challenge a i ≡ message_of_challenge b j → (a ≡ b) × (i ≡ j)
  pub kinds : (a b : List ℕ) (i : ℕ) → message_of_state a ≢ message_of_challenge b i
