-- The chains and the strings that stand one after the other.
use Rattle.std.proofs.Common.{◌≡◌, ℕ, zero, suc, ◌+◌, ◌*◌, ◌-◌, ◌^◌, ◌<◌, ◌≤◌, List, [], ◌++◌, length, take, drop, length-append, length-drop, refl, sym, ap, ◌∙◌, subst, inl, inr, arith}
use Rattle.std.proofs.lemmas.List.{take_at, drop_at, take-append-le, drop-append-le, append-nil}
use Rattle.std.proofs.lemmas.Bool.{cases_lt}
use Rattle.std.proofs.lemmas.Nat.{and_le_r}
use Rattle.sha2.proofs.Facts256.{length-sha256}
use Rattle.lms_signatures.specs.declared.types.OtsType.{OtsType}
use Rattle.lms_signatures.specs.Types.{width}
use Rattle.lms_signatures.specs.Ots.{chain, chain_step, joined, string_at, digit}
use Rattle.lms_signatures.specs.Secret.{Secret, along, private_element}

-- the rest of a chain
pub chain_rest : (id : List ℕ) (q i a n : ℕ) (x : List ℕ) → chain id q i a n (chain id q i 0 a x) ≡ chain id q i 0 (a + n) x
unfolding chain
chain_rest id q i a zero x = ap (λ (m : ℕ). chain id q i 0 m x) (omega arith)
chain_rest id q i a (suc n) x =
    let e : a + suc n ≡ suc (a + n) = omega arith in
    let z : 0 + (a + n) ≡ a + n = omega arith in
    rw (e, chain_rest id q i a n x, z) refl

pub length-chain : (id : List ℕ) (q i a n : ℕ) (x : List ℕ) → length x ≡ 32 → length (chain id q i a n x) ≡ 32
unfolding chain chain_step
length-chain id q i a zero x e = e
length-chain id q i a (suc n) x e = length-sha256 _

pub length-along : (s : Secret) (q n i : ℕ) → length (along s q n i) ≡ 32
unfolding private_element
length-along s q n i = length-chain s.id q i 0 n _ (length-sha256 _)

-- a digit is at most the length of a chain
pub digit_le : (ots : OtsType) (s : List ℕ) (i : ℕ) → digit ots s i ≤ 2 ^ width ots - 1
digit_le ots s i = and_le_r _ _

pub length-joined : (f : ℕ → List ℕ) (n : ℕ) → ((i : ℕ) → length (f i) ≡ 32) → length (joined f n) ≡ 32 * n
unfolding joined
length-joined f zero e = refl
length-joined f (suc n) e = omega (arith, length-append (joined f n) (f n), length-joined f n e, e n)

-- the whole list is taken
pub all_taken : (n : ℕ) (x : List ℕ) → length x ≡ n → take n x ≡ x
all_taken n x e = ap (take n) (sym (append-nil x)) ∙ take_at x [] n e

-- the i-th string
pub string_at-joined : (f : ℕ → List ℕ) (n i : ℕ) → ((i : ℕ) → length (f i) ≡ 32) → i < n → string_at (joined f n) i ≡ f i
unfolding joined
string_at-joined f zero i e lt = absurd (omega arith)
string_at-joined f (suc n) i e lt =
    let long = length-joined f n e in
    elim (cases_lt i n) [
      | inl below ↦
          let a : drop (32 * i) (joined f n ++ f n) ≡ drop (32 * i) (joined f n) ++ f n = drop-append-le (32 * i) (joined f n) (f n) (omega arith) in
          let b : take 32 (drop (32 * i) (joined f n) ++ f n) ≡ take 32 (drop (32 * i) (joined f n)) =
          take-append-le 32 (drop (32 * i) (joined f n)) (f n) (omega (arith, length-drop (32 * i) (joined f n))) in
          rw a (b ∙ string_at-joined f n i e below)
      | inr here ↦
          let i_is : n ≡ i = omega arith in
          let a : drop (32 * i) (joined f n ++ f n) ≡ f n = drop_at (joined f n) (f n) (32 * i) (omega arith) in
          rw a (subst (λ (v : ℕ). take 32 (f n) ≡ f v) i_is (all_taken 32 (f n) (e n)))
    ]
