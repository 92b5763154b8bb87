-- The chains of a key are started, one after the other.
use Rattle.std.proofs.Common.{◌≡◌, ℕ, ◌+◌, ◌-◌, ◌<◌, ◌≤◌, List, length, refl, ap, ◌∙◌, inl, inr, arith}
use Rattle.std.proofs.lemmas.List.{get_or-set_same, get_or-set_other}
use Rattle.std.proofs.lemmas.Bool.{cases_lt}
use Rattle.std.proofs.Math.ListN.{set}
use Rattle.lms_signatures.specs.declared.types.OtsType.{OtsType}
use Rattle.lms_signatures.specs.declared.types.OtsType.TheVariants.{W1, W2, W4, W8}
use Rattle.lms_signatures.specs.Types.{chain_count}
use Rattle.lms_signatures.specs.Ots.{chain_step}
use Rattle.lms_signatures.specs.Runs.{run_at, end_of}
use Rattle.lms_signatures.specs.declared.runs.Run.{Run}
use Rattle.lms_signatures.specs.Secret.{Secret, along, private_element}
use Rattle.lms_signatures.specs.Starts.{private_run}

-- the first chains, as far as there are any, are those of f
abbrev pub Filled : (ℕ → Run) → ℕ → List Run → ℕ → Type 0
Filled f count xs m = (k : ℕ) → k < m → k < count → run_at xs k ≡ f k

-- one more, or the last once more
pub filled_next : (f : ℕ → Run) (count m p : ℕ) (xs : List Run) (r : Run) → p < length xs → (m < count → p ≡ m) → r ≡ f p
    → Filled f count xs m → Filled f count (set xs p r) (m + 1)
filled_next f count m p xs r lt next is held k low high = elim (cases_lt k p) [
  | inl below ↦ elim (cases_lt k m) [
    | inl before ↦ get_or-set_other xs p k r _ (omega arith) ∙ held k before high
    | inr here ↦ absurd (let e : p ≡ m = next (omega arith) in omega arith)
  ]
  | inr above ↦ elim (cases_lt p k) [
    | inl after ↦ elim (cases_lt k m) [
      | inl before ↦ get_or-set_other xs p k r _ (omega arith) ∙ held k before high
      | inr here ↦ absurd (let e : p ≡ m = next (omega arith) in omega arith)
    ]
    | inr same ↦
        let e : p ≡ k = omega arith in
        rw (← e) (get_or-set_same xs p r _ lt ∙ is)
  ]
]

-- a private element is made as a step is
pub private_is : (s : Secret) (q i : ℕ) → chain_step s.id q i 0xff s.seed ≡ private_element s q i
unfolding chain_step private_element
private_is s q i = refl

-- the end of a chain from its private element
pub private_end : (s : Secret) (q to i : ℕ) → end_of s.id q i (private_run s q to i) ≡ along s q to i
private_end s q to i = ap (λ (n : ℕ). along s q n i) (let e : to - 0 ≡ to = omega arith in e)

-- a chain at what a step from the secret string gives
pub started : (s : Secret) (q top i p to : ℕ) (id seed y : List ℕ) (r : Run) → r ≡ record { string = y; at = 0; to = to } → to ≡ top
    → id ≡ s.id → seed ≡ s.seed → p ≡ i → y ≡ chain_step id q i 0xff seed → r ≡ private_run s q top p
started s q top i p to id seed y r er et ei es ep ey = er ∙ rw (et, ey, ei, es, ep, private_is s q i) refl

-- each key has a chain
pub some_chain : (ots : OtsType) → 1 ≤ chain_count ots
some_chain W1 = omega arith
some_chain W2 = omega arith
some_chain W4 = omega arith
some_chain W8 = omega arith
