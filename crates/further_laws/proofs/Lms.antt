-- A signature of LMS that is checked in two parts: the first 34 chains, and the rest.
use Rattle.std.proofs.Common.{◌≡◌, ℕ, zero, suc, ◌+◌, ◌^◌, true, List, [], ◌∷◌, ◌++◌, sym, ◌∙◌, ap, arith, Result, Ok}
use Rattle.std.specs.List.{flat_map}
use Rattle.std.specs.Str.{bytes_eq}
use Rattle.std.proofs.lemmas.List.{append_assoc, append-nil}
use Rattle.byteorder.specs.Endian.{big_bytes}
use Rattle.sha2.specs.Sha256.{sha256}
use Rattle.lms_signatures.specs.declared.types.LmsFault.{LmsFault}
use Rattle.lms_signatures.specs.declared.types.LmsType.{LmsType}
use Rattle.lms_signatures.specs.declared.types.OtsType.TheVariants.{W4}
use Rattle.lms_signatures.specs.Types.{height}
use Rattle.lms_signatures.specs.Ots.{D_PBLC, opening, message_hash, joined, chain_end, ends_hash}
use Rattle.lms_signatures.specs.Parts.{KeyParts, SignatureParts, key_of, signature_of}
use Rattle.lms_signatures.specs.Tree.{leaf, climb}
use Rattle.lms_signatures.specs.IsSigned.{gives_root, is_signed_under, is_signed}

-- bytes that are spelled as numbers of so many each
abbrev pub spelled : ℕ → List ℕ → List ℕ
spelled size numbers = flat_map (λ n. big_bytes size n) numbers

-- the bytes of a key, and those of a signature
abbrev pub key_with : (lms id root : ℕ) → List ℕ
key_with lms id root = 0 ∷ 0 ∷ 0 ∷ lms ∷ 0 ∷ 0 ∷ 0 ∷ 3 ∷ spelled 16 (id ∷ []) ++ big_bytes 32 root

abbrev pub signature_with : (index lms : ℕ) → (chains path : List ℕ) → List ℕ
signature_with index lms chains path = 0 ∷ 0 ∷ 0 ∷ index ∷ 0 ∷ 0 ∷ 0 ∷ 3 ∷ spelled 64 chains ++ (0 ∷ 0 ∷ 0 ∷ lms ∷ spelled 32 path)

abbrev pub parts_of_key : LmsType → (id root : List ℕ) → KeyParts
parts_of_key lms id root = record { lms = lms; ots = W4; id = id; root = root }

-- the end of chain i
abbrev pub end_of : (id : List ℕ) → SignatureParts → List ℕ → ℕ → List ℕ
end_of id s message i = chain_end W4 id s.index (message_hash id s.index s.c message) s.chains i

-- the root that the ends of the chains give
abbrev pub root_by : LmsType → (id : List ℕ) → SignatureParts → (ends : List ℕ) → List ℕ
root_by lms id s ends =
    climb id (2 ^ height lms + s.index) s.path (leaf id (2 ^ height lms + s.index) (sha256 (opening id s.index D_PBLC ++ ends))) (height lms)

joined-more : (f : ℕ → List ℕ) (m n : ℕ) → joined f (m + n) ≡ joined f m ++ joined (λ i. f (m + i)) n
unfolding joined
joined-more f m zero = let e : m + 0 ≡ m = omega arith in ap (λ (k : ℕ). joined f k) e ∙ sym (append-nil (joined f m))
joined-more f m (suc n) =
    let e : m + suc n ≡ suc (m + n) = omega arith in
    ap (λ (k : ℕ). joined f k) e ∙ (ap (λ (x : List ℕ). x ++ f (m + n)) (joined-more f m n) ∙ append_assoc (joined f m) (joined (λ i. f (m + i)) n) (f (m + n)))

pub verified : (lms : LmsType) (id root : List ℕ) (s : SignatureParts) (key message signature first : List ℕ)
    → key_of key ≡ Ok (parts_of_key lms id root) → signature_of (parts_of_key lms id root) signature ≡ Ok s
    → joined (end_of id s message) 34 ≡ first
    → bytes_eq (root_by lms id s (first ++ joined (λ i. end_of id s message (34 + i)) 33)) root ≡ true
    → is_signed key message signature ≡ true
unfolding is_signed ends_hash
verified lms id root s key message signature first is_key is_signature is_first is_root =
    ap (λ (k : Result KeyParts LmsFault). is_signed_under k message signature) is_key
    ∙ (ap (λ (g : Result SignatureParts LmsFault). gives_root (parts_of_key lms id root) message g) is_signature
    ∙ (ap (λ (ends : List ℕ). bytes_eq (root_by lms id s ends) root) (joined-more (end_of id s message) 34 33 ∙ ap (λ (ends : List ℕ). ends ++ joined (λ i. end_of id s message (34 + i)) 33) is_first)
    ∙ is_root))
