use Rattle.std.proofs.Common.{◌≡◌, ℕ, zero, suc, ◌<◌, ◌+◌, ◌-◌, ◌*◌, ◌/◌, ◌%◌, ◌^◌, List, [], ◌∷◌, length, slice_index, bit_or, arith, refl, sym, ap, ◌∙◌, inl, inr, w32}
use Rattle.std.proofs.lemmas.List.{get_or-map, get_or-set_same, get_or-set_other, length-set}
use Rattle.std.proofs.lemmas.Bool.{cases_lt}
use Rattle.std.proofs.Math.ListN.{set}
use Rattle.std.specs.List.{slice_index_or}
use Rattle.std.specs.Int.{rotate_right}
use Rattle.lms_signatures.specs.Lanes.{lane, words}
use Rattle.std.specs.Simd.Lanes.{zip2}

-- what holds of each of the four lanes
pub below_four : (P : ℕ → Type 0) → P 0 → P 1 → P 2 → P 3 → (j : ℕ) → j < 4 → P j
below_four P p0 p1 p2 p3 zero h = p0
below_four P p0 p1 p2 p3 (suc zero) h = p1
below_four P p0 p1 p2 p3 (suc (suc zero)) h = p2
below_four P p0 p1 p2 p3 (suc (suc (suc zero))) h = p3
below_four P p0 p1 p2 p3 (suc (suc (suc (suc n)))) h = absurd (omega arith)

-- what holds of each list of four elements
pub four_lanes : (P : List ℕ → Type 0) → ((a b c d : ℕ) → P (a ∷ b ∷ c ∷ d ∷ [])) → (xs : List ℕ) → length xs ≡ 4 → P xs
four_lanes P p (a ∷ b ∷ c ∷ d ∷ []) h = p a b c d
four_lanes P p [] h = absurd (omega arith)
four_lanes P p (a ∷ []) h = absurd (omega arith)
four_lanes P p (a ∷ b ∷ []) h = absurd (omega arith)
four_lanes P p (a ∷ b ∷ c ∷ []) h = absurd (omega arith)
four_lanes P p (a ∷ b ∷ c ∷ d ∷ e ∷ xs) h = absurd (omega arith)

-- two shifts of each lane and an or are a rotation
abbrev pub Rotates : ℕ → List ℕ → Type 0
Rotates k a = (j : ℕ) → j < 4
    → slice_index (zip2 bit_or
    (zip2 (λ x n. x / 2 ^ n) a (k ∷ k ∷ k ∷ k ∷ []))
    (zip2 (λ x n. x * 2 ^ n % 2 ^ 32) a ((32 - k) ∷ (32 - k) ∷ (32 - k) ∷ (32 - k) ∷ []))) j
    ≡ rotate_right w32 (slice_index a j) k

pub shifts_rotate : (k : ℕ) → 0 < k → k < 32 → (a : List ℕ) → length a ≡ 4 → Rotates k a
shifts_rotate k low high =
    let left : k % 32 ≡ k = omega arith in
    let right : (32 - k) % 32 ≡ 32 - k = omega arith in
    four_lanes (Rotates k) (λ a0 a1 a2 a3.
    below_four _ (rw (left, right) refl) (rw (left, right) refl) (rw (left, right) refl) (rw (left, right) refl))

-- a shift of each lane
abbrev pub Shifts : ℕ → List ℕ → Type 0
Shifts k a = (j : ℕ) → j < 4 → slice_index (zip2 (λ x n. x / 2 ^ n) a (k ∷ k ∷ k ∷ k ∷ [])) j ≡ slice_index a j / 2 ^ k

pub shifts_right : (k : ℕ) → k < 32 → (a : List ℕ) → length a ≡ 4 → Shifts k a
shifts_right k high =
    four_lanes (Shifts k) (λ a0 a1 a2 a3. below_four _ refl refl refl refl)

-- a word of a message
pub lane_word : (w : List (List ℕ)) (j k : ℕ) → k < length w → slice_index (words j w) k ≡ slice_index (slice_index_or w k []) j
lane_word w j k h = get_or-map (λ (v : List ℕ). slice_index v j) w k [] 0 h

-- a working variable of a message
pub lane_variable : (j : ℕ) (x : List (List ℕ)) (k : ℕ) → k < 8 → slice_index (lane j x) k ≡ slice_index (slice_index_or x k []) j
lane_variable j x zero h = refl
lane_variable j x (suc zero) h = refl
lane_variable j x (suc (suc zero)) h = refl
lane_variable j x (suc (suc (suc zero))) h = refl
lane_variable j x (suc (suc (suc (suc zero)))) h = refl
lane_variable j x (suc (suc (suc (suc (suc zero))))) h = refl
lane_variable j x (suc (suc (suc (suc (suc (suc zero)))))) h = refl
lane_variable j x (suc (suc (suc (suc (suc (suc (suc zero))))))) h = refl
lane_variable j x (suc (suc (suc (suc (suc (suc (suc (suc k)))))))) h = absurd (omega arith)

-- one word more of each message
pub words_more : (w : List (List ℕ)) (i : ℕ) (v : List ℕ) (f : ℕ → ℕ → ℕ) → length w ≡ 16 → i < 16
    → ((j k : ℕ) → j < 4 → k < i → slice_index (words j w) k ≡ f j k) → ((j : ℕ) → j < 4 → slice_index v j ≡ f j i)
    → (j k : ℕ) → j < 4 → k < i + 1 → slice_index (words j (set w i v)) k ≡ f j k
words_more w i v f long lt before here j k jlt klt =
    let at : slice_index (words j (set w i v)) k ≡ slice_index (slice_index_or (set w i v) k []) j = lane_word (set w i v) j k (omega (arith, length-set w i v)) in
    elim (cases_lt k i) [
      | inl below ↦
          at ∙ ap (λ (x : List ℕ). slice_index x j) (get_or-set_other w i k v [] (omega arith))
          ∙ sym (lane_word w j k (omega arith)) ∙ before j k jlt below
      | inr same ↦
          let e : i ≡ k = omega arith in
          at ∙ rw (← e) (ap (λ (x : List ℕ). slice_index x j) (get_or-set_same w i v [] (omega arith)) ∙ here j jlt)
    ]
