-- The public key and the signature of LMS, by where their parts stand (RFC 8554, sections 5.3 and 5.4).
use Rattle.std.specs.Prelude.{◌≡◌, ℕ, ◌+◌, ◌*◌, ◌^◌, ◌<◌, ◌==◌, nat_lt, Bool, true, false, ok_or, Result, Ok, Err, List, length, take, drop}
use Rattle.byteorder.specs.Endian.{big_number}
use Rattle.lms_signatures.specs.Types.{ots_code, chain_count, lms_code, height, ots_of, lms_of}
use Rattle.lms_signatures.specs.declared.types.OtsType.{OtsType}
use Rattle.lms_signatures.specs.declared.types.LmsType.{LmsType}
use Rattle.lms_signatures.specs.declared.types.LmsFault.{LmsFault}
use Rattle.lms_signatures.specs.declared.types.LmsFault.TheVariants.{Length, Kind, Index}

pub record KeyParts : Type 0 where
  pub lms : LmsType
  pub ots : OtsType
  pub id : List ℕ
  pub root : List ℕ

pub record SignatureParts : Type 0 where
  pub index : ℕ
  pub c : List ℕ
  pub chains : List ℕ
  pub path : List ℕ

-- the signature has the parts that the key's types ask for
pub record IsUnder (k : KeyParts) (s : SignatureParts) : Type 0 where
  pub index : s.index < 2 ^ height k.lms
  pub c : length s.c ≡ 32
  pub chains : length s.chains ≡ 32 * chain_count k.ots
  pub path : length s.path ≡ 32 * height k.lms

infixl 10 ◌>>=◌
abbrev pub ◌>>=◌ : {A B : Type 0} → Result A LmsFault → (A → Result B LmsFault) → Result B LmsFault
(Ok x) >>= f = f x
(Err e) >>= f = Err e

-- the fault, unless the test holds
abbrev pub wants : Bool → LmsFault → Result Bool LmsFault
wants true e = Ok true
wants false e = Err e

-- the number in the four bytes from place i
unfoldable pub number_at : ℕ → List ℕ → ℕ
number_at i bytes = big_number 4 (drop i bytes)

-- the key that the bytes are, or the first fault
unfoldable pub key_of : List ℕ → Result KeyParts LmsFault
key_of bytes = do
  long ← wants (length bytes == 56) (Length (length bytes))
  lms ← ok_or (lms_of (number_at 0 bytes)) (Kind (number_at 0 bytes))
  ots ← ok_or (ots_of (number_at 4 bytes)) (Kind (number_at 4 bytes))
  Ok (record { lms = lms; ots = ots; id = take 16 (drop 8 bytes); root = take 32 (drop 24 bytes) })

-- how long a signature is: the index, the LM-OTS type, C, the chains, the LMS type and the path
abbrev pub signature_len : OtsType → LmsType → ℕ
signature_len ots lms = 12 + 32 * (1 + chain_count ots + height lms)

-- where the LMS type stands in a signature
abbrev pub chains_end : OtsType → ℕ
chains_end ots = 40 + 32 * chain_count ots

-- the signature that the bytes are under the key, or the first fault
unfoldable pub signature_of : KeyParts → List ℕ → Result SignatureParts LmsFault
signature_of key bytes = do
  long ← wants (length bytes == signature_len key.ots key.lms) (Length (length bytes))
  ots ← wants (number_at 4 bytes == ots_code key.ots) (Kind (number_at 4 bytes))
  lms ← wants (number_at (chains_end key.ots) bytes == lms_code key.lms) (Kind (number_at (chains_end key.ots) bytes))
  low ← wants (nat_lt (number_at 0 bytes) (2 ^ height key.lms)) (Index (number_at 0 bytes))
  Ok (record {
    index = number_at 0 bytes;
    c = take 32 (drop 8 bytes);
    chains = take (32 * chain_count key.ots) (drop 40 bytes);
    path = drop (chains_end key.ots + 4) bytes;
  })
