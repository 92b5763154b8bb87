-- The public key and the signatures that a secret makes (RFC 8554, sections 4.5, 5.3 and 5.4.1).
use Rattle.std.specs.Prelude.{ℕ, ◌+◌, ◌-◌, ◌/◌, ◌%◌, ◌^◌, ◌==◌, if◌then◌else◌, List, ◌++◌}
use Rattle.lms_signatures.specs.Types.{u32str, ots_code, chain_count, lms_code, height}
use Rattle.lms_signatures.specs.Ots.{message_hash, digit, joined}
use Rattle.lms_signatures.specs.Parts.{KeyParts, SignatureParts}
use Rattle.lms_signatures.specs.Secret.{Secret, secret_of, randomizer, along, leaf_count, node}

-- the public key (5.3)
abbrev pub public_of : Secret → KeyParts
public_of s = record { lms = s.lms; ots = s.ots; id = s.id; root = node s (height s.lms) 1 }

-- the bytes of a public key (5.3)
abbrev pub key_bytes : KeyParts → List ℕ
key_bytes k = u32str (lms_code k.lms) ++ u32str (ots_code k.ots) ++ k.id ++ k.root

-- the other child of the node above
abbrev pub sibling : ℕ → ℕ
sibling r = if r % 2 == 1 then r - 1 else r + 1

-- the strings y of a message's hash (4.5, algorithm 3)
unfoldable pub signed_chains : Secret → ℕ → List ℕ → List ℕ
signed_chains s q hash = joined (λ i. along s q (digit s.ots hash i) i) (chain_count s.ots)

-- the path of a leaf (5.4.1)
unfoldable pub path_of : Secret → ℕ → List ℕ
path_of s q = joined (λ i. node s i (sibling ((leaf_count s + q) / 2 ^ i))) (height s.lms)

-- the signature of a message at an index (4.5 and 5.4.1)
abbrev pub made : Secret → ℕ → List ℕ → SignatureParts
made s q message = record {
  index = q;
  c = randomizer s q;
  chains = signed_chains s q (message_hash s.id q (randomizer s q) message);
  path = path_of s q;
}

-- the bytes of a signature (5.4.1)
abbrev pub signature_bytes : Secret → SignatureParts → List ℕ
signature_bytes s g = u32str g.index ++ u32str (ots_code s.ots) ++ g.c ++ g.chains ++ u32str (lms_code s.lms) ++ g.path

-- the public key of a seed and an identifier, for a tree of height h
unfoldable pub made_key : List ℕ → List ℕ → ℕ → List ℕ
made_key seed id h = key_bytes (public_of (secret_of seed id h))

-- the signature of a message at index q, of the same secret
unfoldable pub made_bytes : List ℕ → List ℕ → ℕ → ℕ → List ℕ → List ℕ
made_bytes seed id h q message = signature_bytes (secret_of seed id h) (made (secret_of seed id h) q message)
