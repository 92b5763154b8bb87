-- When a signature verifies (RFC 8554, section 5.4.2).
use Rattle.std.specs.Prelude.{◌≡◌, ℕ, ◌+◌, ◌^◌, Ok, List}
use Rattle.lms_signatures.specs.Types.{height}
use Rattle.lms_signatures.specs.Ots.{ots_candidate}
use Rattle.lms_signatures.specs.Tree.{leaf, climb}
use Rattle.lms_signatures.specs.Parts.{KeyParts, SignatureParts, key_of, signature_of}

-- Tc, the root that a signature gives (algorithm 6a)
abbrev pub root_candidate : KeyParts → SignatureParts → List ℕ → List ℕ
root_candidate k s message =
    let r = 2 ^ height k.lms + s.index in
    climb k.id r s.path (leaf k.id r (ots_candidate k.ots k.id s.index s.c s.chains message)) (height k.lms)

-- the key and the signature are read, and the root that the signature gives is the key's
pub record Verifies (key message signature : List ℕ) : Type 0 where
  pub k : KeyParts
  pub s : SignatureParts
  pub is_key : key_of key ≡ Ok k
  pub is_signature : signature_of k signature ≡ Ok s
  pub is_root : root_candidate k s message ≡ k.root
