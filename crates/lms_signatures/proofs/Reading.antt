-- What was written is read again.
use Rattle.std.proofs.Common.{◌≡◌, ℕ, ◌+◌, ◌*◌, ◌^◌, ◌<◌, ◌≤◌, ◌==◌, nat_lt, true, Some, Ok, List, [], ◌++◌, length, take, drop, length-append, append_assoc, refl, ap, ◌∙◌, arith}
use Rattle.std.proofs.lemmas.List.{take_at, drop_at, append-nil}
use Rattle.std.proofs.lemmas.Bool.{eq-eqb, lt-ltb}
use Rattle.std.proofs.Math.Pow.{pow_mono}
use Rattle.byteorder.specs.Numbers.{big_number-reads_back, length-bytes_high_first}
use Rattle.lms_signatures.specs.declared.types.OtsType.{OtsType}
use Rattle.lms_signatures.specs.declared.types.OtsType.TheVariants.{W1, W2, W4, W8}
use Rattle.lms_signatures.specs.declared.types.LmsType.{LmsType}
use Rattle.lms_signatures.specs.declared.types.LmsType.TheVariants.{H5, H10, H15}
use Rattle.lms_signatures.specs.Types.{u32str, ots_code, lms_code, chain_count, height, ots_of, lms_of}
use Rattle.lms_signatures.specs.Parts.{KeyParts, SignatureParts, IsUnder, number_at, key_of, signature_of, signature_len, chains_end}
use Rattle.lms_signatures.specs.Made.{key_bytes}

pub length-u32str : (n : ℕ) → length (u32str n) ≡ 4
unfolding u32str
length-u32str n = length-bytes_high_first 4 n

-- the number after a front
pub number_behind : (front rest : List ℕ) (i n : ℕ) → length front ≡ i → n < 2 ^ 32 → number_at i (front ++ (u32str n ++ rest)) ≡ n
unfolding number_at u32str
number_behind front rest i n e lt =
    let a : drop i (front ++ (u32str n ++ rest)) ≡ u32str n ++ rest = drop_at front (u32str n ++ rest) i e in
    rw a (big_number-reads_back 4 n rest lt)

-- the part after a front
pub part_behind : (front part rest : List ℕ) (i n : ℕ) → length front ≡ i → length part ≡ n → take n (drop i (front ++ (part ++ rest))) ≡ part
part_behind front part rest i n e f =
    let a : drop i (front ++ (part ++ rest)) ≡ part ++ rest = drop_at front (part ++ rest) i e in
    rw a (take_at part rest n f)

ots_again : (ots : OtsType) → ots_of (ots_code ots) ≡ Some ots
ots_again W1 = refl
ots_again W2 = refl
ots_again W4 = refl
ots_again W8 = refl

lms_again : (lms : LmsType) → lms_of (lms_code lms) ≡ Some lms
lms_again H5 = refl
lms_again H10 = refl
lms_again H15 = refl

ots_code_small : (ots : OtsType) → ots_code ots < 2 ^ 32
ots_code_small W1 = omega arith
ots_code_small W2 = omega arith
ots_code_small W4 = omega arith
ots_code_small W8 = omega arith

lms_code_small : (lms : LmsType) → lms_code lms < 2 ^ 32
lms_code_small H5 = omega arith
lms_code_small H10 = omega arith
lms_code_small H15 = omega arith

height_small : (lms : LmsType) → height lms ≤ 15
height_small H5 = omega arith
height_small H10 = omega arith
height_small H15 = omega arith

-- a key is read by its parts
key_reads : (bytes : List ℕ) (k : KeyParts) → length bytes ≡ 56 → number_at 0 bytes ≡ lms_code k.lms → number_at 4 bytes ≡ ots_code k.ots
    → take 16 (drop 8 bytes) ≡ k.id → take 32 (drop 24 bytes) ≡ k.root → key_of bytes ≡ Ok k
unfolding key_of
key_reads bytes k long lms ots id root = rw (long, lms, ots, lms_again, ots_again, id, root) refl

-- the bytes of a key are read as the key
pub key_again : (k : KeyParts) → length k.id ≡ 16 → length k.root ≡ 32 → key_of (key_bytes k) ≡ Ok k
key_again k id root =
    let a : List ℕ = u32str (lms_code k.lms) in
    let b : List ℕ = u32str (ots_code k.ots) in
    let la : length a ≡ 4 = length-u32str _ in
    let lb : length b ≡ 4 = length-u32str _ in
    let whole : a ++ b ++ k.id ++ k.root ≡ [] ++ (a ++ (b ++ (k.id ++ k.root))) = simp append_assoc in
    let behind : a ++ b ++ k.id ++ k.root ≡ a ++ (b ++ (k.id ++ k.root)) = simp append_assoc in
    let middle : a ++ b ++ k.id ++ k.root ≡ (a ++ b) ++ (k.id ++ k.root) = simp append_assoc in
    let end : a ++ b ++ k.id ++ k.root ≡ (a ++ b ++ k.id) ++ (k.root ++ []) = simp (append_assoc, append-nil) in
    key_reads (key_bytes k) k
    (simp length-append (omega arith))
    (ap (number_at 0) whole ∙ number_behind [] _ 0 _ refl (lms_code_small k.lms))
    (ap (number_at 4) behind ∙ number_behind a _ 4 _ la (ots_code_small k.ots))
    (ap (λ (x : List ℕ). take 16 (drop 8 x)) middle ∙ part_behind (a ++ b) k.id k.root 8 16 (omega (arith, length-append a b)) id)
    (ap (λ (x : List ℕ). take 32 (drop 24 x)) end ∙ part_behind (a ++ b ++ k.id) k.root [] 24 32 (omega (arith, length-append a b, length-append (a ++ b) k.id)) root)

-- a signature is read by its parts
signature_reads : (bytes : List ℕ) (k : KeyParts) (s : SignatureParts) → length bytes ≡ signature_len k.ots k.lms → number_at 0 bytes ≡ s.index → s.index < 2 ^ height k.lms
    → number_at 4 bytes ≡ ots_code k.ots → number_at (chains_end k.ots) bytes ≡ lms_code k.lms
    → take 32 (drop 8 bytes) ≡ s.c → take (32 * chain_count k.ots) (drop 40 bytes) ≡ s.chains → drop (chains_end k.ots + 4) bytes ≡ s.path
    → signature_of k bytes ≡ Ok s
unfolding signature_of
signature_reads bytes k s long index low ots lms c chains path =
    let a : (length bytes == signature_len k.ots k.lms) ≡ true = eq-eqb _ _ long in
    let b : (number_at 4 bytes == ots_code k.ots) ≡ true = eq-eqb _ _ ots in
    let d : (number_at (chains_end k.ots) bytes == lms_code k.lms) ≡ true = eq-eqb _ _ lms in
    let e : nat_lt s.index (2 ^ height k.lms) ≡ true = lt-ltb _ _ low in
    rw (a, b, d, index, e, c, chains, path) refl

-- the bytes of a signature
abbrev bytes_under : KeyParts → SignatureParts → List ℕ
bytes_under k g = u32str g.index ++ u32str (ots_code k.ots) ++ g.c ++ g.chains ++ u32str (lms_code k.lms) ++ g.path

-- the bytes of a signature are read as the signature
pub signature_again : (k : KeyParts) (g : SignatureParts) → IsUnder k g → signature_of k (bytes_under k g) ≡ Ok g
signature_again k g u =
    let q : List ℕ = u32str g.index in
    let o : List ℕ = u32str (ots_code k.ots) in
    let l : List ℕ = u32str (lms_code k.lms) in
    let lq : length q ≡ 4 = length-u32str _ in
    let lo : length o ≡ 4 = length-u32str _ in
    let ll : length l ≡ 4 = length-u32str _ in
    let index_fits : g.index < 2 ^ 32 = let p : 2 ^ height k.lms ≤ 2 ^ 32 = pow_mono {i = height k.lms} {j = 32} (omega (arith, height_small k.lms)) in omega (arith, u.index) in
    let at_q : bytes_under k g ≡ [] ++ (q ++ (o ++ (g.c ++ (g.chains ++ (l ++ g.path))))) = simp append_assoc in
    let at_o : bytes_under k g ≡ q ++ (o ++ (g.c ++ (g.chains ++ (l ++ g.path)))) = simp append_assoc in
    let at_c : bytes_under k g ≡ (q ++ o) ++ (g.c ++ (g.chains ++ (l ++ g.path))) = simp append_assoc in
    let at_y : bytes_under k g ≡ (q ++ o ++ g.c) ++ (g.chains ++ (l ++ g.path)) = simp append_assoc in
    let at_l : bytes_under k g ≡ (q ++ o ++ g.c ++ g.chains) ++ (l ++ g.path) = simp append_assoc in
    let at_p : bytes_under k g ≡ (q ++ o ++ g.c ++ g.chains ++ l) ++ g.path = refl in
    let to_c : length (q ++ o) ≡ 8 = simp length-append (omega arith) in
    let to_y : length (q ++ o ++ g.c) ≡ 40 = simp length-append (omega (arith, u.c)) in
    let to_l : length (q ++ o ++ g.c ++ g.chains) ≡ chains_end k.ots = simp length-append (omega (arith, u.c, u.chains)) in
    let to_p : length (q ++ o ++ g.c ++ g.chains ++ l) ≡ chains_end k.ots + 4 = simp length-append (omega (arith, u.c, u.chains)) in
    signature_reads (bytes_under k g) k g
    (simp length-append (omega (arith, u.c, u.chains, u.path)))
    (ap (number_at 0) at_q ∙ number_behind [] _ 0 _ refl index_fits)
    u.index
    (ap (number_at 4) at_o ∙ number_behind q _ 4 _ lq (ots_code_small k.ots))
    (ap (number_at (chains_end k.ots)) at_l ∙ number_behind (q ++ o ++ g.c ++ g.chains) _ _ _ to_l (lms_code_small k.lms))
    (ap (λ (x : List ℕ). take 32 (drop 8 x)) at_c ∙ part_behind (q ++ o) g.c _ 8 32 to_c u.c)
    (ap (λ (x : List ℕ). take (32 * chain_count k.ots) (drop 40 x)) at_y ∙ part_behind (q ++ o ++ g.c) g.chains _ 40 (32 * chain_count k.ots) to_y u.chains)
    (drop_at (q ++ o ++ g.c ++ g.chains ++ l) g.path (chains_end k.ots + 4) to_p)
