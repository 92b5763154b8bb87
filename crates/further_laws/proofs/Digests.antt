-- The two people of the example, their channel and its states, and the SHA-256 of what it names, looked up.
use Rattle.std.proofs.Common.{◌≡◌, ℕ, Bool, true, false, cond, List, [], ◌∷◌, refl, sym, ◌∙◌, ap}
use Rattle.std.specs.Prelude.{◌==◌, nat_lt, slice_index_or}
use Rattle.std.specs.List.{AllByRecursion}
use Rattle.std.specs.Str.{bytes_eq}
use mathlib.Core.Path.{fun_ext}
use Rattle.sha2.specs.Sha256.{sha256, hash_after, compress, digest_bytes, first_words, schedule, rounds}
use Rattle.channel_values.specs.Parts.{FixedParts, StateParts, fixed_with, state_with}
use Rattle.channel_values.specs.Spelling.{fixed, state, outcome}
use Rattle.channel_values.specs.declared.value.AssetOutcome.{AssetOutcome}
use Rattle.channel_values.specs.declared.value.Dest.{Dest}
use Rattle.channel_values.specs.declared.value.Dest.TheVariants.{Person}
use Rattle.channel_values.specs.declared.value.Item.{Item}
use Rattle.channel_values.specs.declared.value.Shape.TheVariants.{Allocation}
use Rattle.channel_values.specs.Digests.{channel_string, person_string, state_string, outcome_string, name_of_person}
use Rattle.call_history.proofs.Names.{same_bytes}
use Rattle.further_laws.proofs.KeyA as own
use Rattle.further_laws.proofs.KeyB as others

-- ---- what is hashed

abbrev pub key_a : List ℕ
key_a = own.key

abbrev pub key_b : List ℕ
key_b = others.key

abbrev pub pair : FixedParts
pair = fixed_with (key_a ∷ key_b ∷ []) 7 1 10

-- the names of the channel and of the two
abbrev pub name : List ℕ
name =
    68 ∷ 85 ∷ 249 ∷ 219 ∷ 204 ∷ 99 ∷ 35 ∷ 214 ∷ 135 ∷ 137 ∷ 158 ∷ 137 ∷ 228 ∷ 50 ∷ 77 ∷ 230 ∷
    98 ∷ 0 ∷ 112 ∷ 160 ∷ 186 ∷ 65 ∷ 15 ∷ 173 ∷ 150 ∷ 86 ∷ 211 ∷ 176 ∷ 238 ∷ 23 ∷ 152 ∷ 212 ∷ []

abbrev pub a : List ℕ
a =
    52 ∷ 246 ∷ 24 ∷ 182 ∷ 177 ∷ 143 ∷ 46 ∷ 242 ∷ 238 ∷ 70 ∷ 216 ∷ 67 ∷ 9 ∷ 26 ∷ 237 ∷ 57 ∷
    53 ∷ 251 ∷ 17 ∷ 117 ∷ 13 ∷ 62 ∷ 156 ∷ 215 ∷ 46 ∷ 36 ∷ 190 ∷ 17 ∷ 49 ∷ 164 ∷ 245 ∷ 33 ∷ []

abbrev pub b : List ℕ
b =
    78 ∷ 204 ∷ 154 ∷ 222 ∷ 154 ∷ 224 ∷ 105 ∷ 142 ∷ 137 ∷ 169 ∷ 139 ∷ 202 ∷ 127 ∷ 165 ∷ 117 ∷ 213 ∷
    234 ∷ 8 ∷ 182 ∷ 67 ∷ 232 ∷ 174 ∷ 67 ∷ 218 ∷ 170 ∷ 81 ∷ 129 ∷ 69 ∷ 223 ∷ 242 ∷ 93 ∷ 33 ∷ []

abbrev pub item : Dest → ℕ → Item
item to amount = record { to = to; amount = amount }

abbrev pub pays : ℕ → ℕ → List AssetOutcome
pays x y = record { asset = 0; shape = Allocation (item (Person a) x ∷ item (Person b) y ∷ []) } ∷ []

-- 5 for A and 3 for B in the set-up; A pays 2 at turn 4, and B pays 1 back at turn 5
abbrev pub end_at : ℕ → List AssetOutcome
end_at turn = cond (nat_lt turn 4) (pays 5 3) (cond (turn == 4) (pays 3 5) (pays 4 4))

abbrev pub at_turn : ℕ → StateParts
at_turn turn = state_with turn false (end_at turn) []

-- ---- digests

-- of the outcomes, and of the states
abbrev pub digest_5_3 : List ℕ
digest_5_3 =
    205 ∷ 65 ∷ 160 ∷ 167 ∷ 142 ∷ 25 ∷ 39 ∷ 32 ∷ 141 ∷ 136 ∷ 22 ∷ 83 ∷ 126 ∷ 183 ∷ 232 ∷ 159 ∷
    69 ∷ 160 ∷ 41 ∷ 172 ∷ 85 ∷ 151 ∷ 11 ∷ 19 ∷ 79 ∷ 79 ∷ 14 ∷ 46 ∷ 123 ∷ 102 ∷ 223 ∷ 144 ∷ []

abbrev pub digest_3_5 : List ℕ
digest_3_5 =
    237 ∷ 241 ∷ 249 ∷ 202 ∷ 100 ∷ 99 ∷ 39 ∷ 120 ∷ 53 ∷ 230 ∷ 143 ∷ 142 ∷ 206 ∷ 235 ∷ 23 ∷ 41 ∷
    71 ∷ 37 ∷ 250 ∷ 176 ∷ 143 ∷ 81 ∷ 18 ∷ 36 ∷ 41 ∷ 70 ∷ 72 ∷ 162 ∷ 122 ∷ 55 ∷ 49 ∷ 142 ∷ []

abbrev pub digest_4_4 : List ℕ
digest_4_4 =
    94 ∷ 229 ∷ 18 ∷ 89 ∷ 69 ∷ 182 ∷ 4 ∷ 96 ∷ 207 ∷ 53 ∷ 143 ∷ 216 ∷ 42 ∷ 227 ∷ 143 ∷ 64 ∷
    228 ∷ 109 ∷ 95 ∷ 89 ∷ 193 ∷ 54 ∷ 99 ∷ 216 ∷ 250 ∷ 173 ∷ 48 ∷ 231 ∷ 136 ∷ 219 ∷ 229 ∷ 148 ∷ []

abbrev pub digest_0 : List ℕ
digest_0 =
    84 ∷ 236 ∷ 104 ∷ 230 ∷ 174 ∷ 218 ∷ 116 ∷ 147 ∷ 65 ∷ 82 ∷ 252 ∷ 82 ∷ 103 ∷ 42 ∷ 156 ∷ 78 ∷
    135 ∷ 64 ∷ 160 ∷ 112 ∷ 197 ∷ 114 ∷ 10 ∷ 51 ∷ 8 ∷ 247 ∷ 103 ∷ 168 ∷ 138 ∷ 145 ∷ 124 ∷ 66 ∷ []

abbrev pub digest_1 : List ℕ
digest_1 =
    214 ∷ 243 ∷ 163 ∷ 181 ∷ 187 ∷ 49 ∷ 175 ∷ 40 ∷ 31 ∷ 34 ∷ 200 ∷ 209 ∷ 231 ∷ 188 ∷ 149 ∷ 161 ∷
    59 ∷ 170 ∷ 132 ∷ 248 ∷ 124 ∷ 147 ∷ 74 ∷ 86 ∷ 132 ∷ 162 ∷ 220 ∷ 181 ∷ 204 ∷ 134 ∷ 51 ∷ 133 ∷ []

abbrev pub digest_2 : List ℕ
digest_2 =
    115 ∷ 85 ∷ 212 ∷ 9 ∷ 195 ∷ 227 ∷ 225 ∷ 134 ∷ 81 ∷ 54 ∷ 209 ∷ 141 ∷ 39 ∷ 212 ∷ 57 ∷ 177 ∷
    33 ∷ 164 ∷ 143 ∷ 9 ∷ 167 ∷ 202 ∷ 219 ∷ 170 ∷ 236 ∷ 71 ∷ 222 ∷ 66 ∷ 237 ∷ 39 ∷ 216 ∷ 211 ∷ []

abbrev pub digest_3 : List ℕ
digest_3 =
    195 ∷ 136 ∷ 75 ∷ 18 ∷ 178 ∷ 34 ∷ 216 ∷ 103 ∷ 85 ∷ 41 ∷ 243 ∷ 232 ∷ 44 ∷ 100 ∷ 72 ∷ 36 ∷
    235 ∷ 218 ∷ 183 ∷ 158 ∷ 109 ∷ 0 ∷ 118 ∷ 173 ∷ 254 ∷ 33 ∷ 61 ∷ 177 ∷ 183 ∷ 223 ∷ 36 ∷ 81 ∷ []

abbrev pub digest_4 : List ℕ
digest_4 =
    241 ∷ 43 ∷ 195 ∷ 160 ∷ 55 ∷ 38 ∷ 57 ∷ 38 ∷ 150 ∷ 94 ∷ 159 ∷ 117 ∷ 232 ∷ 133 ∷ 35 ∷ 139 ∷
    33 ∷ 208 ∷ 130 ∷ 9 ∷ 114 ∷ 239 ∷ 153 ∷ 46 ∷ 131 ∷ 55 ∷ 230 ∷ 159 ∷ 44 ∷ 131 ∷ 171 ∷ 189 ∷ []

abbrev pub digest_5 : List ℕ
digest_5 =
    149 ∷ 82 ∷ 154 ∷ 202 ∷ 172 ∷ 1 ∷ 234 ∷ 107 ∷ 76 ∷ 137 ∷ 6 ∷ 20 ∷ 116 ∷ 238 ∷ 217 ∷ 196 ∷
    182 ∷ 26 ∷ 41 ∷ 13 ∷ 3 ∷ 126 ∷ 246 ∷ 216 ∷ 27 ∷ 68 ∷ 35 ∷ 117 ∷ 58 ∷ 95 ∷ 144 ∷ 130 ∷ []

abbrev pub digest_6 : List ℕ
digest_6 =
    34 ∷ 46 ∷ 99 ∷ 55 ∷ 144 ∷ 169 ∷ 134 ∷ 155 ∷ 234 ∷ 247 ∷ 129 ∷ 12 ∷ 146 ∷ 223 ∷ 205 ∷ 22 ∷
    214 ∷ 216 ∷ 154 ∷ 103 ∷ 176 ∷ 84 ∷ 199 ∷ 79 ∷ 186 ∷ 115 ∷ 151 ∷ 12 ∷ 174 ∷ 175 ∷ 25 ∷ 196 ∷ []

abbrev pub digests : List (List ℕ)
digests = digest_0 ∷ digest_1 ∷ digest_2 ∷ digest_3 ∷ digest_4 ∷ digest_5 ∷ digest_6 ∷ []

abbrev pub digest_of : ℕ → List ℕ
digest_of turn = slice_index_or digests turn []

abbrev string_at : ℕ → List ℕ
string_at turn = state_string name (state (at_turn turn))

abbrev table : List (List ℕ × List ℕ)
table =
    (channel_string (fixed pair), name) ∷ (person_string key_a, a) ∷ (person_string key_b, b) ∷ (outcome_string (outcome (pays 5 3)), digest_5_3) ∷ (outcome_string (outcome (pays 3 5)), digest_3_5)
    ∷ (outcome_string (outcome (pays 4 4)), digest_4_4)
    ∷ (string_at 0, digest_0) ∷ (string_at 1, digest_1) ∷ (string_at 2, digest_2) ∷ (string_at 3, digest_3) ∷ (string_at 4, digest_4) ∷ (string_at 5, digest_5) ∷ (string_at 6, digest_6) ∷ []

are-digests : AllByRecursion (λ e. sha256 e.0 ≡ e.1) table
unfolding sha256 hash_after compress digest_bytes first_words schedule rounds fixed state outcome
are-digests = (refl, (refl, (refl, (refl, (refl, (refl, (refl, (refl, (refl, (refl, (refl, (refl, (refl, tt)))))))))))))

-- ---- SHA-256, looked up where the table has it

abbrev looked_up : List (List ℕ × List ℕ) → List ℕ → List ℕ
looked_up [] x = sha256 x
looked_up (e ∷ rest) x = cond (bytes_eq e.0 x) e.1 (looked_up rest x)

abbrev pub hash : List ℕ → List ℕ
hash x = looked_up table x

looked-up : (es : List (List ℕ × List ℕ)) → AllByRecursion (λ e. sha256 e.0 ≡ e.1) es → (x : List ℕ) → looked_up es x ≡ sha256 x
looked-up [] are x = refl
looked-up (e ∷ rest) are x = go (bytes_eq e.0 x) (same_bytes e.0 x) (looked-up rest are.1 x)
  where
    go : (t : Bool) → (t ≡ true → e.0 ≡ x) → looked_up rest x ≡ sha256 x → cond t e.1 (looked_up rest x) ≡ sha256 x
    go true same later = sym are.0 ∙ ap (λ (y : List ℕ). sha256 y) (same refl)
    go false same later = later

-- the string of a digest of the table
abbrev string_in : List (List ℕ × List ℕ) → List ℕ → List ℕ
string_in [] digest = []
string_in (e ∷ rest) digest = cond (bytes_eq e.1 digest) e.0 (string_in rest digest)

abbrev pub string_of : List ℕ → List ℕ
string_of digest = string_in table digest

pub hash-is : hash ≡ sha256
hash-is = fun_ext (looked-up table are-digests)

pub person-a : name_of_person key_a ≡ a
unfolding name_of_person sha256 hash_after compress digest_bytes first_words schedule rounds
person-a = refl
