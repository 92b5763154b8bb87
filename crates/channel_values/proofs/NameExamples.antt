-- Worked values, by OpenSSL.
use Rattle.std.proofs.Common.{◌≡◌, [], ◌∷◌, replicate, refl}
use Rattle.sha2.specs.Sha256.{sha256, first_words, schedule, rounds, compress, hash_after, digest_bytes}
use Rattle.channel_values.specs.Digests.{name_of_channel, name_of_person, digest_of_state, digest_of_outcome}

channel_of_nothing : name_of_channel [] ≡
    75 ∷ 245 ∷ 18 ∷ 47 ∷ 52 ∷ 69 ∷ 84 ∷ 197 ∷ 59 ∷ 222 ∷ 46 ∷ 187 ∷ 140 ∷ 210 ∷ 183 ∷ 227 ∷
    209 ∷ 96 ∷ 10 ∷ 214 ∷ 49 ∷ 195 ∷ 133 ∷ 165 ∷ 215 ∷ 204 ∷ 226 ∷ 60 ∷ 119 ∷ 133 ∷ 69 ∷ 154 ∷ []
unfolding name_of_channel first_words schedule rounds compress hash_after digest_bytes sha256
channel_of_nothing = refl

person_of_zeros : name_of_person (replicate 56 0) ≡
    69 ∷ 7 ∷ 124 ∷ 123 ∷ 39 ∷ 112 ∷ 138 ∷ 88 ∷ 17 ∷ 49 ∷ 50 ∷ 30 ∷ 243 ∷ 140 ∷ 114 ∷ 139 ∷
    62 ∷ 73 ∷ 13 ∷ 244 ∷ 129 ∷ 199 ∷ 88 ∷ 10 ∷ 19 ∷ 96 ∷ 200 ∷ 236 ∷ 227 ∷ 42 ∷ 59 ∷ 99 ∷ []
unfolding name_of_person first_words schedule rounds compress hash_after digest_bytes sha256
person_of_zeros = refl

state_of_zeros : digest_of_state (replicate 32 0) (7 ∷ []) ≡
    78 ∷ 230 ∷ 123 ∷ 11 ∷ 112 ∷ 83 ∷ 91 ∷ 70 ∷ 246 ∷ 215 ∷ 57 ∷ 229 ∷ 108 ∷ 30 ∷ 131 ∷ 161 ∷
    170 ∷ 86 ∷ 228 ∷ 203 ∷ 89 ∷ 255 ∷ 84 ∷ 236 ∷ 90 ∷ 67 ∷ 113 ∷ 244 ∷ 124 ∷ 15 ∷ 125 ∷ 24 ∷ []
unfolding digest_of_state first_words schedule rounds compress hash_after digest_bytes sha256
state_of_zeros = refl

outcome_of_a_zero : digest_of_outcome (0 ∷ []) ≡
    192 ∷ 186 ∷ 138 ∷ 51 ∷ 172 ∷ 103 ∷ 244 ∷ 74 ∷ 191 ∷ 245 ∷ 152 ∷ 77 ∷ 251 ∷ 182 ∷ 245 ∷ 108 ∷
    70 ∷ 184 ∷ 128 ∷ 172 ∷ 43 ∷ 134 ∷ 225 ∷ 242 ∷ 62 ∷ 127 ∷ 169 ∷ 196 ∷ 2 ∷ 197 ∷ 58 ∷ 231 ∷ []
unfolding digest_of_outcome first_words schedule rounds compress hash_after digest_bytes sha256
outcome_of_a_zero = refl
