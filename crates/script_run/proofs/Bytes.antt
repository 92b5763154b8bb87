-- Keys and signatures that are made of a seed are keys and signatures of the format.
use Rattle.std.proofs.Common.{◌≡◌, ℕ, zero, suc, ◌+◌, List, ◌++◌, length, length-append, arith}
use Rattle.lms_signatures.specs.Ots.{chain, chain_step, joined, message_hash}
use Rattle.lms_signatures.specs.Tree.{leaf, interior}
use Rattle.lms_signatures.specs.Types.{u32str, ots_code, lms_code, height}
use Rattle.channel_values.specs.Chains.{IsSignature}
use Rattle.channel_values.specs.Outcomes.{AreBytes}
use Rattle.channel_values.specs.Parts.{IsKey}
use Rattle.channel_values.proofs.Fields.{AreBytes-take}
use Rattle.fairness_laws.proofs.Ledger.Spelled.{none, append, number}
use Rattle.fairness_laws.proofs.NamesAreNames.{sums}
use Rattle.lms_signatures.proofs.Lengths.{short_signature}
use Rattle.script_play.proofs.Meant.{id_long}
use Rattle.script_steps.specs.Digests.{id_of, key_of}
use Rattle.lms_signatures.proofs.Climbs.{length-node}
use Rattle.lms_signatures.proofs.Reading.{length-u32str}
use Rattle.lms_signatures.specs.Made.{signed_chains, path_of, made_bytes, made_key}
use Rattle.lms_signatures.specs.Secret.{Secret, secret_of, randomizer, along, private_element, node}

u32-bytes : (n : ℕ) → AreBytes (u32str n)
unfolding u32str
u32-bytes n = number 4 n

chain-bytes : (id : List ℕ) (q i a n : ℕ) (x : List ℕ) → AreBytes x → AreBytes (chain id q i a n x)
unfolding chain chain_step
chain-bytes id q i a zero x all = all
chain-bytes id q i a (suc n) x all = (sums _).1

along-bytes : (s : Secret) (q n i : ℕ) → AreBytes (along s q n i)
unfolding private_element
along-bytes s q n i = chain-bytes s.id q i 0 n _ (sums _).1

joined-bytes : (f : ℕ → List ℕ) (n : ℕ) → ((i : ℕ) → AreBytes (f i)) → AreBytes (joined f n)
unfolding joined
joined-bytes f zero all = none
joined-bytes f (suc n) all = append (joined f n) (f n) (joined-bytes f n all) (all n)

node-bytes : (s : Secret) (level r : ℕ) → AreBytes (node s level r)
unfolding node leaf interior
node-bytes s zero r = (sums _).1
node-bytes s (suc level) r = (sums _).1

randomizer-bytes : (s : Secret) (q : ℕ) → AreBytes (randomizer s q)
unfolding randomizer
randomizer-bytes s q = (sums _).1

chains-bytes : (s : Secret) (q : ℕ) (hash : List ℕ) → AreBytes (signed_chains s q hash)
unfolding signed_chains
chains-bytes s q hash = joined-bytes _ _ (λ i. along-bytes s q _ i)

path-bytes : (s : Secret) (q : ℕ) → AreBytes (path_of s q)
unfolding path_of
path-bytes s q = joined-bytes _ _ (λ i. node-bytes s i _)

-- six strings, one after the other
six : (a b c d e f : List ℕ) → AreBytes a → AreBytes b → AreBytes c → AreBytes d → AreBytes e → AreBytes f → AreBytes (a ++ b ++ c ++ d ++ e ++ f)
six a b c d e f ha hb hc hd he hf =
    append (a ++ b ++ c ++ d ++ e) f (append (a ++ b ++ c ++ d) e (append (a ++ b ++ c) d (append (a ++ b) c (append a b ha hb) hc) hd) he) hf

made-bytes : (seed id : List ℕ) (h q : ℕ) (message : List ℕ) → AreBytes (made_bytes seed id h q message)
unfolding made_bytes
made-bytes seed id h q message =
    let s : Secret = secret_of seed id h in
    let hash : List ℕ = message_hash s.id q (randomizer s q) message in
    six (u32str q) (u32str (ots_code s.ots)) (randomizer s q) (signed_chains s q hash) (u32str (lms_code s.lms)) (path_of s q)
    (u32-bytes q) (u32-bytes (ots_code s.ots)) (randomizer-bytes s q) (chains-bytes s q hash) (u32-bytes (lms_code s.lms)) (path-bytes s q)

pub made_is_signature : (seed id : List ℕ) (h q : ℕ) (message : List ℕ) → IsSignature (made_bytes seed id h q message)
made_is_signature seed id h q message = (short_signature seed id h q message, made-bytes seed id h q message)

-- ---- keys

four-parts : (a b c d : List ℕ) → length (a ++ b ++ c ++ d) ≡ length a + (length b + (length c + length d))
four-parts a b c d = omega (arith, length-append (a ++ b ++ c) d, length-append (a ++ b) c, length-append a b)

pub made_is_key : (seed id : List ℕ) (h : ℕ) → length id ≡ 16 → AreBytes id → IsKey (made_key seed id h)
unfolding made_key
made_is_key seed id h sixteen all =
    let s : Secret = secret_of seed id h in
    let a : List ℕ = u32str (lms_code s.lms) in
    let b : List ℕ = u32str (ots_code s.ots) in
    let root : List ℕ = node s (height s.lms) 1 in (
      omega (arith, four-parts a b id root, length-u32str (lms_code s.lms), length-u32str (ots_code s.ots), sixteen, length-node s (height s.lms) 1),
      append (a ++ b ++ id) root (append (a ++ b) id (append a b (u32-bytes (lms_code s.lms)) (u32-bytes (ots_code s.ots))) all) (node-bytes s (height s.lms) 1),
    )

id-bytes : (seed : List ℕ) → AreBytes (id_of seed)
unfolding id_of
id-bytes seed = AreBytes-take 16 _ (sums _).1

pub key_is_key : (seed : List ℕ) (h : ℕ) → IsKey (key_of seed h)
unfolding key_of
key_is_key seed h = made_is_key seed (id_of seed) h (id_long seed) (id-bytes seed)
