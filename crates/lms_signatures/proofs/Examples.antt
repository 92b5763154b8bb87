-- Worked values that were had elsewhere: the standard's own examples, sums by hand, and a hash by OpenSSL.
use Rattle.std.proofs.Common.{◌≡◌, [], ◌∷◌, replicate, refl}
use Rattle.sha2.specs.Sha256.{sha256, first_words, schedule, rounds, compress, hash_after, digest_bytes}
use Rattle.lms_signatures.specs.declared.types.OtsType.TheVariants.{W1, W2, W4, W8}
use Rattle.lms_signatures.specs.Types.{u16str, u32str}
use Rattle.lms_signatures.specs.Ots.{coef, coef_gap, checksum, chain_step}

-- the examples of section 3.1.3
coef_of_bits : coef (0x12 ∷ 0x34 ∷ []) 7 1 ≡ 0
coef_of_bits = refl

coef_of_nibbles : coef (0x12 ∷ 0x34 ∷ []) 0 4 ≡ 1
coef_of_nibbles = refl

-- the checksum of zeros is as large as one can be: 256, 128 * 3, 64 * 15 and 32 * 255, shifted
checksum_of_bits : checksum W1 (replicate 32 0) ≡ 32768
unfolding checksum coef_gap
checksum_of_bits = refl

checksum_of_pairs : checksum W2 (replicate 32 0) ≡ 24576
unfolding checksum coef_gap
checksum_of_pairs = refl

checksum_of_nibbles : checksum W4 (replicate 32 0) ≡ 15360
unfolding checksum coef_gap
checksum_of_nibbles = refl

checksum_of_bytes : checksum W8 (replicate 32 0) ≡ 8160
unfolding checksum coef_gap
checksum_of_bytes = refl

-- a chain step on zeros is SHA-256 of 55 zeros
step_of_zeros : chain_step (replicate 16 0) 0 0 0 (replicate 32 0) ≡
    2 ∷ 119 ∷ 148 ∷ 102 ∷ 205 ∷ 236 ∷ 22 ∷ 56 ∷ 17 ∷ 208 ∷ 120 ∷ 129 ∷ 92 ∷ 99 ∷ 63 ∷ 33 ∷
    144 ∷ 20 ∷ 19 ∷ 8 ∷ 20 ∷ 73 ∷ 0 ∷ 47 ∷ 36 ∷ 170 ∷ 62 ∷ 128 ∷ 240 ∷ 184 ∷ 142 ∷ 247 ∷ []
unfolding chain_step u16str u32str first_words schedule rounds compress hash_after digest_bytes sha256
step_of_zeros = refl
