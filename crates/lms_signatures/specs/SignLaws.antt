-- Laws over the equations alone.
use Rattle.std.specs.Prelude.{◌≡◌, ◌<◌, ◌^◌, ℕ, List, length, IsTrue, AllPairs}
use Rattle.lms_signatures.specs.Verifies.{Verifies}
use Rattle.lms_signatures.specs.IsSigned.{is_signed}
use Rattle.lms_signatures.specs.Secret.{Secret, leaf_count}
use Rattle.lms_signatures.specs.Made.{public_of, key_bytes, made, signature_bytes, made_key, made_bytes}
use Rattle.lms_signatures.specs.Signing.{Signing, IsHeight}
use Rattle.lms_signatures.specs.Calls.{Call, IsRun, signatures, index_of}

-- what is made at an index of the tree verifies under the key of the secret, for each type of key
abbrev pub MadeVerifies : Type 0
MadeVerifies = (s : Secret) (q : ℕ) (message : List ℕ) → length s.id ≡ 16 → q < leaf_count s
    → Verifies (key_bytes (public_of s)) message (signature_bytes s (made s q message))

-- the same of the bytes that a signer makes, for the test of a signature as a function
abbrev pub MadeIsSigned : Type 0
MadeIsSigned = (seed id : List ℕ) (h q : ℕ) (message : List ℕ) → length id ≡ 16 → IsHeight h → q < 2 ^ h
    → IsTrue (is_signed (made_key seed id h) message (made_bytes seed id h q message))

-- over any calls on a signer, with refusals between them, each signature names a greater index than those
-- before it: no index signs two messages
abbrev pub NoIndexTwice : Type 0
NoIndexTwice = (s : Signing) (calls : List Call) → IsHeight s.h → IsRun s calls
    → AllPairs (λ earlier later. index_of earlier < index_of later) (signatures calls)
