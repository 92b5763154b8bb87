-- The test of a signature as a function, for definitions that compute with its answer.
use Rattle.std.specs.Prelude.{ℕ, Bool, false, List, Result, Ok, Err}
use Rattle.std.specs.Str.{bytes_eq}
use Rattle.lms_signatures.specs.declared.types.LmsFault.{LmsFault}
use Rattle.lms_signatures.specs.Parts.{KeyParts, SignatureParts, key_of, signature_of}
use Rattle.lms_signatures.specs.Verifies.{root_candidate}

-- whether what was read as a signature gives the key's root
abbrev pub gives_root : KeyParts → List ℕ → Result SignatureParts LmsFault → Bool
gives_root k message (Ok s) = bytes_eq (root_candidate k s message) k.root
gives_root k message (Err fault) = false

-- whether the bytes are a signature of the message under what was read as a key
abbrev pub is_signed_under : Result KeyParts LmsFault → List ℕ → List ℕ → Bool
is_signed_under (Ok k) message signature = gives_root k message (signature_of k signature)
is_signed_under (Err fault) message signature = false

-- whether the signature is one of the message under the key
unfoldable pub is_signed : List ℕ → List ℕ → List ℕ → Bool
is_signed key message signature = is_signed_under (key_of key) message signature
