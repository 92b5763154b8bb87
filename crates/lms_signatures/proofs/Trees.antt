-- The tree as a list of nodes by their numbers.
use Rattle.std.proofs.Common.{◌≡◌, ℕ, zero, suc, ◌+◌, ◌*◌, ◌-◌, ◌/◌, ◌^◌, ◌<◌, ◌≤◌, List, [], ◌++◌, length, get_or, replicate, length-append, refl, ap, subst, ◌∙◌, inl, inr, arith}
use Rattle.std.proofs.lemmas.List.{get_or_default, get_or-set_other, get_or-set_same, append-nil}
use Rattle.std.proofs.lemmas.Bool.{cases_lt}
use Rattle.std.proofs.lemmas.Bool.Decides.{nat_tests}
use Rattle.std.proofs.Math.Nat.{pow-suc}
use Rattle.std.proofs.Math.Pow.{pow_mono}
use Rattle.std.proofs.Math.ListN.{set}
use borrow.Rule.Slice.PartMut.{put_mid}
use Rattle.lms_signatures.proofs.Beside.{put_next}
use Rattle.lms_signatures.specs.Types.{height}
use Rattle.lms_signatures.specs.Tree.{interior}
use Rattle.lms_signatures.specs.Secret.{Secret, node, leaf_count}
use Rattle.lms_signatures.specs.Made.{sibling}
use Rattle.lms_signatures.specs.IsSigner.{IsTree}

-- one more node is written above its children
pub interiors_more : (id : List ℕ) (count i : ℕ) (t : List (List ℕ)) (x : List ℕ) → 1 ≤ i → i < count → count - i < length t
    → x ≡ interior id (count - i) (get_or t (2 * (count - i)) []) (get_or t (2 * (count - i) + 1) [])
    → ((r : ℕ) → count < r + i → r < count → get_or t r [] ≡ interior id r (get_or t (2 * r) []) (get_or t (2 * r + 1) []))
    → (r : ℕ) → count < r + (i + 1) → r < count
    → get_or (set t (count - i) x) r [] ≡ interior id r (get_or (set t (count - i) x) (2 * r) []) (get_or (set t (count - i) x) (2 * r + 1) [])
interiors_more id count i t x one lt long is below r low high =
    let left : get_or (set t (count - i) x) (2 * r) [] ≡ get_or t (2 * r) [] = get_or-set_other t (count - i) (2 * r) x [] (omega arith) in
    let right : get_or (set t (count - i) x) (2 * r + 1) [] ≡ get_or t (2 * r + 1) [] = get_or-set_other t (count - i) (2 * r + 1) x [] (omega arith) in
    rw (left, right) (elim (cases_lt (count - i) r) [
      | inl above ↦ get_or-set_other t (count - i) r x [] (omega arith) ∙ below r (omega arith) high
      | inr here ↦ let e : count - i ≡ r = omega arith in
          subst (λ (v : ℕ). get_or (set t (count - i) x) v [] ≡ interior id v (get_or t (2 * v) []) (get_or t (2 * v + 1) [])) e
          (get_or-set_same t (count - i) x [] long ∙ is)
    ])

-- the list has T[r] at each r of a level
pub tree_node : (s : Secret) (t : List (List ℕ)) → IsTree s t → (level k r : ℕ) → level + k ≡ height s.lms → 2 ^ k ≤ r → r < 2 * 2 ^ k
    → get_or t r [] ≡ node s level r
unfolding node
tree_node s t is zero k r e low high =
    let k_is : k ≡ height s.lms = omega arith in
    is.leaves r (rw (← k_is) low) (rw (← k_is) high)
tree_node s t is (suc level) k r e low high =
    let double : 2 ^ (suc k) ≡ 2 ^ k * 2 = pow-suc 2 k in
    let top : 2 ^ (suc k) ≤ leaf_count s = pow_mono {i = suc k} {j = height s.lms} (omega arith) in
    let one : 2 ^ 0 ≤ 2 ^ k = pow_mono {i = 0} {j = k} (omega arith) in
    let left : get_or t (2 * r) [] ≡ node s level (2 * r) = tree_node s t is level (suc k) (2 * r) (omega arith) (omega arith) (omega arith) in
    let right : get_or t (2 * r + 1) [] ≡ node s level (2 * r + 1) = tree_node s t is level (suc k) (2 * r + 1) (omega arith) (omega arith) (omega arith) in
    is.interiors r (omega arith) (omega arith) ∙ rw (left, right) refl

-- the sibling stands on the same level
pub sibling_low : (r m : ℕ) → 2 * m ≤ r → 2 * m ≤ sibling r
sibling_low r m low = grind (arith, nat_tests)

pub sibling_low_at : (r m : ℕ) → m * 2 ≤ r → m * 2 ≤ sibling r
sibling_low_at r m low = let a : 2 * m ≤ sibling r = sibling_low r m (omega arith) in omega arith

pub sibling_high : (r m : ℕ) → r < 2 * m → sibling r < 2 * m
sibling_high r m high = grind (arith, nat_tests)

-- a node's number, halved
pub half_low : (r k : ℕ) → 2 ^ (suc k) ≤ r → 2 ^ k ≤ r / 2
half_low r k low = let double : 2 ^ (suc k) ≡ 2 ^ k * 2 = pow-suc 2 k in omega arith

pub half_high : (r k : ℕ) → r < 2 * 2 ^ (suc k) → r / 2 < 2 * 2 ^ k
half_high r k high = let double : 2 ^ (suc k) ≡ 2 ^ k * 2 = pow-suc 2 k in omega arith

-- the sibling of a node on a level below the root is in the list
pub tree_sibling : (s : Secret) (t : List (List ℕ)) → IsTree s t → (level k r : ℕ) → level + suc k ≡ height s.lms
    → 2 ^ (suc k) ≤ r → r < 2 * 2 ^ (suc k) → get_or t (sibling r) [] ≡ node s level (sibling r)
tree_sibling s t is level k r e low high =
    let double : 2 ^ (suc k) ≡ 2 ^ k * 2 = pow-suc 2 k in
    let a : 2 ^ (suc k) ≤ sibling r = rw double (sibling_low_at r (2 ^ k) (omega arith)) in
    let b : sibling r < 2 * 2 ^ (suc k) = sibling_high r (2 ^ (suc k)) high in
    tree_node s t is level (suc k) (sibling r) e a b

-- the parts of a public key, one after the other
pub key_written : (a b c d : List ℕ) → length a ≡ 4 → length b ≡ 4 → length c ≡ 16 → length d ≡ 32
    → put_mid 24 32 (put_mid 8 16 (put_mid 4 4 (a ++ replicate 52 0) b) c) d ≡ a ++ b ++ c ++ d
key_written a b c d ea eb ec ed =
    ap (λ (x : List ℕ). put_mid 24 32 (put_mid 8 16 x c) d) (put_next a (replicate 52 0) b 4 4 ea)
    ∙ ap (λ (x : List ℕ). put_mid 24 32 x d) (put_next (a ++ b) (replicate 48 0) c 8 16 (omega (arith, length-append a b)))
    ∙ put_next (a ++ b ++ c) (replicate 32 0) d 24 32 (omega (arith, length-append a b, length-append (a ++ b) c))
    ∙ append-nil (a ++ b ++ c ++ d)

-- the root stands at 1
pub root_at : (s : Secret) (t : List (List ℕ)) (d : List ℕ) → IsTree s t → get_or t 1 d ≡ node s (height s.lms) 1
root_at s t d is =
    let one : 2 ^ 0 ≤ leaf_count s = pow_mono {i = 0} {j = height s.lms} (omega arith) in
    get_or_default t 1 d [] (omega (arith, is.long)) ∙ tree_node s t is (height s.lms) 0 1 (omega arith) (omega arith) (omega arith)
