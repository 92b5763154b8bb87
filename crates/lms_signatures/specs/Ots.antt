-- LM-OTS (RFC 8554, section 4), for the hash SHA-256. A string is a list of bytes.
use Rattle.std.specs.Prelude.{ℕ, zero, suc, ◌+◌, ◌-◌, ◌*◌, ◌/◌, ◌%◌, ◌^◌, List, [], ◌++◌, take, drop, bit_and, slice_index}
use Rattle.sha2.specs.Sha256.{sha256}
use Rattle.lms_signatures.specs.Types.{u8str, u16str, u32str, width, chain_count, checksum_shift}
use Rattle.lms_signatures.specs.declared.types.OtsType.{OtsType}

abbrev pub D_PBLC : ℕ
D_PBLC = 0x8080

abbrev pub D_MESG : ℕ
D_MESG = 0x8181

-- coef(S, i, w) (3.1.3)
abbrev pub coef : List ℕ → ℕ → ℕ → ℕ
coef s i w = bit_and (slice_index s (i * w / 8) / 2 ^ (8 - (w * (i % (8 / w)) + w))) (2 ^ w - 1)

-- the sum of (2^w - 1) - coef(S, i, w) over i below n
unfoldable pub coef_gap : List ℕ → ℕ → ℕ → ℕ
coef_gap s w zero = 0
coef_gap s w (suc n) = coef_gap s w n + (2 ^ w - 1 - coef s n w)

-- the checksum of S (4.4)
unfoldable pub checksum : OtsType → List ℕ → ℕ
checksum ots s = coef_gap s (width ots) (256 / width ots) * 2 ^ checksum_shift ots

-- what each hash but those of the chains begins with
unfoldable pub opening : List ℕ → ℕ → ℕ → List ℕ
opening id r tag = id ++ u32str r ++ u16str tag

-- Q, the hash of the message (4.5)
unfoldable pub message_hash : List ℕ → ℕ → List ℕ → List ℕ → List ℕ
message_hash id q c message = sha256 (opening id q D_MESG ++ c ++ message)

-- Q with its checksum after it
unfoldable pub with_checksum : OtsType → List ℕ → List ℕ
with_checksum ots s = s ++ u16str (checksum ots s)

-- a[i], how far the signer goes along chain i
abbrev pub digit : OtsType → List ℕ → ℕ → ℕ
digit ots s i = coef (with_checksum ots s) i (width ots)

-- one step of chain i
unfoldable pub chain_step : List ℕ → ℕ → ℕ → ℕ → List ℕ → List ℕ
chain_step id q i j tmp = sha256 (id ++ u32str q ++ u16str i ++ u8str j ++ tmp)

-- n steps of chain i, from step j on
unfoldable pub chain : List ℕ → ℕ → ℕ → ℕ → ℕ → List ℕ → List ℕ
chain id q i j zero tmp = tmp
chain id q i j (suc n) tmp = chain_step id q i (j + n) (chain id q i j n tmp)

-- f 0, .., f (n - 1), one after the other
unfoldable pub joined : (ℕ → List ℕ) → ℕ → List ℕ
joined f zero = []
joined f (suc n) = joined f n ++ f n

-- the i-th of the strings of 32 bytes that stand one after the other
abbrev pub string_at : List ℕ → ℕ → List ℕ
string_at strings i = take 32 (drop (32 * i) strings)

-- the end of chain i of a signature (4.6, algorithm 4b, step 3)
abbrev pub chain_end : OtsType → List ℕ → ℕ → List ℕ → List ℕ → ℕ → List ℕ
chain_end ots id q s y i =
    chain id q i (digit ots s i) (2 ^ width ots - 1 - digit ots s i) (string_at y i)

-- K of the ends of the chains (4.3)
unfoldable pub ends_hash : OtsType → List ℕ → ℕ → (ℕ → List ℕ) → List ℕ
ends_hash ots id q z = sha256 (opening id q D_PBLC ++ joined z (chain_count ots))

-- Kc, the public key that a signature gives (4.6, algorithm 4b)
abbrev pub ots_candidate : OtsType → List ℕ → ℕ → List ℕ → List ℕ → List ℕ → List ℕ
ots_candidate ots id q c y message =
    ends_hash ots id q (chain_end ots id q (message_hash id q c message) y)
