-- What is signed is short enough for a message.
use Rattle.std.proofs.Common.{◌≡◌, ℕ, ◌+◌, ◌*◌, ◌≤◌, ◌==◌, List, ◌++◌, length, Bool, true, false, cond, arith, length-append}
use Rattle.sha2.proofs.Facts256.{length-sha256}
use Rattle.lms_signatures.specs.Types.{u32str, ots_code, lms_code, chain_count, height}
use Rattle.lms_signatures.specs.Ots.{message_hash}
use Rattle.lms_signatures.specs.declared.types.LmsType.TheVariants.{H5, H10, H15}
use Rattle.lms_signatures.specs.Secret.{Secret, secret_of, randomizer}
use Rattle.lms_signatures.specs.Made.{signed_chains, path_of, made_bytes}
use Rattle.lms_signatures.proofs.Chains.{length-along, length-joined}
use Rattle.lms_signatures.proofs.Climbs.{length-node}
use Rattle.lms_signatures.proofs.Reading.{length-u32str}

six_parts : (a b c d e f : List ℕ) → length (a ++ b ++ c ++ d ++ e ++ f) ≡ length a + (length b + (length c + (length d + (length e + length f))))
six_parts a b c d e f =
    omega (arith, length-append (a ++ b ++ c ++ d ++ e) f, length-append (a ++ b ++ c ++ d) e, length-append (a ++ b ++ c) d, length-append (a ++ b) c, length-append a b)

long_c : (s : Secret) (q : ℕ) → length (randomizer s q) ≡ 32
unfolding randomizer
long_c s q = length-sha256 _

long_chains : (s : Secret) (q : ℕ) (hash : List ℕ) → length (signed_chains s q hash) ≡ 32 * chain_count s.ots
unfolding signed_chains
long_chains s q hash = length-joined _ _ (λ i. length-along s q _ i)

long_path : (s : Secret) (q : ℕ) → length (path_of s q) ≡ 32 * height s.lms
unfolding path_of
long_path s q = length-joined _ _ (λ i. length-node s i _)

low : (five ten : Bool) → height (cond five H5 (cond ten H10 H15)) ≤ 15
low true ten = omega arith
low false true = omega arith
low false false = omega arith

pub short_signature : (seed id : List ℕ) (h q : ℕ) (message : List ℕ) → length (made_bytes seed id h q message) ≤ 9004
unfolding made_bytes
short_signature seed id h q message =
    let s : Secret = secret_of seed id h in
    let c = randomizer s q in
    let chains = signed_chains s q (message_hash s.id q c message) in
    omega (
      arith,
      six_parts (u32str q) (u32str (ots_code s.ots)) c chains (u32str (lms_code s.lms)) (path_of s q),
      length-u32str q,
      length-u32str (ots_code s.ots),
      length-u32str (lms_code s.lms),
      long_c s q,
      long_chains s q (message_hash s.id q c message),
      long_path s q,
      low (h == 5) (h == 10),
    )
