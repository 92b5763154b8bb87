-- What is made verifies.
use Rattle.std.proofs.Common.{◌≡◌, ℕ, ◌+◌, ◌-◌, ◌/◌, ◌^◌, ◌<◌, List, refl, ap, ◌∙◌, arith}
use Rattle.std.proofs.Math.Nat.{div-eq_of_lt-le}
use Rattle.sha2.proofs.Facts256.{length-sha256}
use Rattle.lms_signatures.specs.Types.{width, chain_count, height}
use Rattle.lms_signatures.specs.Ots.{message_hash, digit, chain_end, ends_hash, string_at}
use Rattle.lms_signatures.specs.Tree.{leaf}
use Rattle.lms_signatures.specs.Parts.{IsUnder}
use Rattle.lms_signatures.specs.Secret.{Secret, leaf_count, along, private_element, ots_public, randomizer, node}
use Rattle.lms_signatures.specs.Made.{public_of, made, signed_chains, path_of}
use Rattle.lms_signatures.specs.SignLaws.{MadeVerifies}
use Rattle.lms_signatures.proofs.Chains.{chain_rest, digit_le, length-along, length-joined, string_at-joined}
use Rattle.lms_signatures.proofs.Beside.{joined_alike}
use Rattle.lms_signatures.proofs.Climbs.{length-node, climb_node}
use Rattle.lms_signatures.proofs.Reading.{key_again, signature_again}

-- a chain of a made signature ends where the chain of the key ends
end_is : (s : Secret) (q : ℕ) (hash : List ℕ) (i : ℕ) → i < chain_count s.ots
    → chain_end s.ots s.id q hash (signed_chains s q hash) i ≡ along s q (2 ^ width s.ots - 1) i
unfolding signed_chains
end_is s q hash i lt =
    let y : string_at (signed_chains s q hash) i ≡ along s q (digit s.ots hash i) i =
    string_at-joined (λ j. along s q (digit s.ots hash j) j) (chain_count s.ots) i (λ j. length-along s q _ j) lt in
    let top : digit s.ots hash i + (2 ^ width s.ots - 1 - digit s.ots hash i) ≡ 2 ^ width s.ots - 1 = omega (arith, digit_le s.ots hash i) in
    rw y (chain_rest s.id q i (digit s.ots hash i) (2 ^ width s.ots - 1 - digit s.ots hash i) (private_element s q i) ∙ ap (λ (n : ℕ). along s q n i) top)

-- so its candidate is the one-time key
candidate_is : (s : Secret) (q : ℕ) (hash : List ℕ) → ends_hash s.ots s.id q (chain_end s.ots s.id q hash (signed_chains s q hash)) ≡ ots_public s q
unfolding ots_public ends_hash
candidate_is s q hash =
    let e = joined_alike (chain_end s.ots s.id q hash (signed_chains s q hash)) (λ i. along s q (2 ^ width s.ots - 1) i) (chain_count s.ots) (end_is s q hash) in
    rw e refl

is_under : (s : Secret) (q : ℕ) (message : List ℕ) → q < leaf_count s → IsUnder (public_of s) (made s q message)
unfolding randomizer signed_chains path_of
is_under s q message lt = record {
  index = lt;
  c = length-sha256 _;
  chains = length-joined _ _ (λ i. length-along s q _ i);
  path = length-joined _ _ (λ i. length-node s i _);
}

-- the leaf that the candidate gives is the tree's
leaf_is : (s : Secret) (q : ℕ) → leaf s.id (leaf_count s + q) (ots_public s q) ≡ node s 0 (leaf_count s + q)
unfolding node
leaf_is s q = let e : leaf_count s + q - leaf_count s ≡ q = omega arith in rw e refl

pub made_verifies : MadeVerifies
made_verifies s q message id lt =
    let at_root : (leaf_count s + q) / 2 ^ height s.lms ≡ 1 = div-eq_of_lt-le (2 ^ height s.lms) (omega arith) (omega arith) in
    record {
      k = public_of s;
      s = made s q message;
      is_key = key_again (public_of s) id (length-node s (height s.lms) 1);
      is_signature = signature_again (public_of s) (made s q message) (is_under s q message lt);
      is_root = rw (candidate_is s q (message_hash s.id q (randomizer s q) message), leaf_is s q) (climb_node s q (height s.lms) (omega arith) ∙ ap (node s (height s.lms)) at_root);
    }
