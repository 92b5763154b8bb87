-- The keys that seeds give, and the digests that name people and channels.
use Rattle.std.specs.Prelude.{ℕ, List, [], ◌∷◌, ◌++◌, take}
use Rattle.sha2.specs.Sha256.{sha256}
use Rattle.lms_signatures.specs.Made.{made_key}
use Rattle.lms_signatures.specs.Signing.{Signing}
use Rattle.channel_values.specs.Digests.{name_of_channel, name_of_person}
use Rattle.channel_values.specs.Parts.{fixed_with}
use Rattle.channel_values.specs.Spelling.{fixed}

-- the identifier of a seed: the first 16 bytes of SHA-256 of the seed and the byte 0x49
unfoldable pub id_of : List ℕ → List ℕ
id_of seed = take 16 (sha256 (seed ++ 0x49 ∷ []))

-- the public key of a seed, for a tree of height h
unfoldable pub key_of : List ℕ → ℕ → List ℕ
key_of seed h = made_key seed (id_of seed) h

-- the signer of a seed, before it signs
abbrev pub fresh : List ℕ → ℕ → Signing
fresh seed h = record { seed = seed; id = id_of seed; h = h; used = 0 }

-- the name of the person with this seed
abbrev pub person_name : List ℕ → ℕ → List ℕ
person_name seed h = name_of_person (key_of seed h)

-- the spelling of a channel's fixed part
abbrev pub spelled : List (List ℕ) → ℕ → ℕ → ℕ → List ℕ
spelled keys nonce app duration = fixed (fixed_with keys nonce app duration)

-- the name of the channel with this fixed part
abbrev pub channel_name : List (List ℕ) → ℕ → ℕ → ℕ → List ℕ
channel_name keys nonce app duration = name_of_channel (spelled keys nonce app duration)
