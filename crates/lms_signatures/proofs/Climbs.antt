-- The path of a leaf leads to the root.
use Rattle.std.proofs.Common.{◌≡◌, ℕ, zero, suc, ◌+◌, ◌*◌, ◌-◌, ◌/◌, ◌%◌, ◌^◌, ◌≤◌, ◌⊎◌, length, refl, ap, ◌∙◌, inl, inr, arith, add-one}
use Rattle.std.proofs.lemmas.Bool.{cases_lt}
use Rattle.lms_signatures.proofs.Steps.{half_more}
use Rattle.sha2.proofs.Facts256.{length-sha256}
use Rattle.lms_signatures.specs.Ots.{string_at}
use Rattle.lms_signatures.specs.Tree.{leaf, interior, parent, climb}
use Rattle.lms_signatures.specs.Types.{height}
use Rattle.lms_signatures.specs.Secret.{Secret, leaf_count, node}
use Rattle.lms_signatures.specs.Made.{sibling, path_of}
use Rattle.lms_signatures.proofs.Chains.{string_at-joined}

-- a node has 32 bytes
pub length-node : (s : Secret) (level r : ℕ) → length (node s level r) ≡ 32
unfolding node leaf interior
length-node s zero r = length-sha256 _
length-node s (suc level) r = length-sha256 _

-- a number is even or odd
halves : (r : ℕ) → ((r % 2 ≡ 1) × (r ≡ 2 * (r / 2) + 1)) ⊎ ((r % 2 ≡ 0) × (r ≡ 2 * (r / 2)))
halves r = elim (cases_lt (r % 2) 1) [ inl low ↦ inr (omega arith, omega arith) | inr high ↦ inl (omega arith, omega arith) ]

-- a node and its sibling have the parent that the tree has
pub parent_node : (s : Secret) (level r : ℕ) → parent s.id r (node s level r) (node s level (sibling r)) ≡ node s (suc level) (r / 2)
unfolding node
parent_node s level r = elim (halves r) [
  | inl odd ↦
      let a : r - 1 ≡ 2 * (r / 2) = omega arith in
      let b : 2 * (r / 2) + 1 ≡ r = omega arith in
      rw (odd.0, b, ← a) refl
  | inr even ↦
      let a : r + 1 ≡ 2 * (r / 2) + 1 = omega arith in
      let b : 2 * (r / 2) ≡ r = omega arith in
      rw (even.0, b) refl
]

-- what stands i levels above a leaf
pub climb_node : (s : Secret) (q i : ℕ) → i ≤ height s.lms
    → climb s.id (leaf_count s + q) (path_of s q) (node s 0 (leaf_count s + q)) i ≡ node s i ((leaf_count s + q) / 2 ^ i)
unfolding climb path_of
climb_node s q zero le = ap (node s 0) (omega arith)
climb_node s q (suc i) le =
    let r : ℕ = leaf_count s + q in
    let below = climb_node s q i (omega arith) in
    let beside : string_at (path_of s q) i ≡ node s i (sibling (r / 2 ^ i)) =
    string_at-joined (λ j. node s j (sibling (r / 2 ^ j))) (height s.lms) i (λ j. length-node s j _) (omega arith) in
    rw (below, beside) (parent_node s i (r / 2 ^ i) ∙ ap (node s (suc i)) (half_more r i ∙ ap (λ (n : ℕ). r / 2 ^ n) (add-one i)))
