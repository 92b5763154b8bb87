-- The premise on digests: the strength of SHA-256 is not proved, so what rests on it says of which strings.
use Rattle.std.specs.Prelude.{◌≡◌, ℕ, List, Contains}
use Rattle.sha2.specs.Sha256.{sha256}

-- no two different ones of the strings have one digest
abbrev pub NoneCollide : List (List ℕ) → Type 0
NoneCollide strings = (a b : List ℕ) → Contains strings a → Contains strings b → sha256 a ≡ sha256 b → a ≡ b
