-- A message of 55 bytes fills one block with its padding.
use Rattle.std.proofs.Common.{◌≡◌, ℕ, ◌+◌, List, [], ◌++◌, length, take, length-append, refl, sym, ap, ◌∙◌, arith}
use Rattle.std.proofs.lemmas.List.{append-nil, take_at}
use Rattle.sha2.specs.Sha256.{sha256, compress, padding, hash_after, initial_hash_256, digest_bytes}

pub one_block : (m : List ℕ) → length m ≡ 55 → sha256 m ≡ digest_bytes (compress initial_hash_256 (m ++ padding 55)) 8
unfolding sha256 hash_after
one_block m long =
    let p : List ℕ = m ++ padding 55 in
    let whole : length p ≡ 64 = length-append m (padding 55) ∙ ap (λ (n : ℕ). n + length (padding 55)) long in
    let all : take 64 p ≡ p = ap (take 64) (sym (append-nil p)) ∙ take_at p [] 64 whole in
    rw (long, whole, all) refl

-- the digest of a message from the state that its block leaves in a lane
pub digest_is : (m b h d : List ℕ) → length b ≡ 64 → b ≡ m ++ padding 55 → d ≡ digest_bytes h 8 → h ≡ compress initial_hash_256 b → d ≡ sha256 m
digest_is m b h d whole eb ed eh =
    let parts : length b ≡ length m + length (padding 55) = ap length eb ∙ length-append m (padding 55) in
    let nine : length (padding 55) ≡ 9 = refl in
    ed ∙ rw (eh, eb) (sym (one_block m (omega (arith, parts, nine, whole))))
