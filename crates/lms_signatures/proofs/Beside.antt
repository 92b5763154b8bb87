-- Chains beside each other: what a step, and all of them, leave.
use Rattle.std.proofs.Common.{◌≡◌, ℕ, zero, suc, ◌+◌, ◌-◌, ◌<◌, ◌≤◌, List, [], ◌++◌, length, drop, take, replicate, append_assoc, refl, sym, ap, ◌∙◌, inl, inr, arith}
use Rattle.std.proofs.lemmas.List.{get_or-set_same, get_or-set_other, append-nil, take_at, drop_at}
use Rattle.std.proofs.lemmas.Bool.{cases_lt}
use Rattle.std.proofs.Math.ListN.{set}
use borrow.Rule.Slice.PartMut.{put_mid}
use Rattle.lms_signatures.specs.Ots.{chain, chain_step, joined}
use Rattle.lms_signatures.specs.Runs.{run_at, end_of, EndsAlike}
use Rattle.lms_signatures.specs.declared.runs.Run.{Run}

-- the first step of a chain
chain_first : (id : List ℕ) (q i j n : ℕ) (x : List ℕ) → chain id q i (j + 1) n (chain_step id q i j x) ≡ chain id q i j (suc n) x
unfolding chain
chain_first id q i j zero x = ap (λ (m : ℕ). chain_step id q i m x) (omega arith)
chain_first id q i j (suc n) x =
    let e : j + 1 + n ≡ j + suc n = omega arith in
    rw (e, chain_first id q i j n x) refl

-- a run that is moved by a step ends alike
pub moved_alike : (id : List ℕ) (q i at to : ℕ) (x y : List ℕ) → at < to → y ≡ chain_step id q i at x
    → chain id q i (at + 1) (to - (at + 1)) y ≡ chain id q i at (to - at) x
moved_alike id q i at to x y lt e =
    let n : to - at ≡ suc (to - (at + 1)) = omega arith in
    rw (n, e) (chain_first id q i at (to - (at + 1)) x)

-- nothing is left of a chain that is at its end
pub ended : (id : List ℕ) (q i at to : ℕ) (x : List ℕ) → to ≤ at → x ≡ chain id q i at (to - at) x
unfolding chain
ended id q i at to x le = let n : to - at ≡ 0 = omega arith in rw n refl

-- a chain is put in the place of one that ends alike
pub alike_set : (id : List ℕ) (q : ℕ) (xs ys : List Run) (p : ℕ) (r : Run) → p < length ys → EndsAlike id q xs ys
    → end_of id q p r ≡ end_of id q p (run_at xs p) → EndsAlike id q xs (set ys p r)
alike_set id q xs ys p r lt held same i = elim (cases_lt i p) [
  | inl below ↦ ap (end_of id q i) (get_or-set_other ys p i r _ (omega arith)) ∙ held i
  | inr high ↦ elim (cases_lt p i) [
    | inl above ↦ ap (end_of id q i) (get_or-set_other ys p i r _ (omega arith)) ∙ held i
    | inr low ↦
        let e : p ≡ i = omega arith in
        rw (← e) (ap (end_of id q p) (get_or-set_same ys p r _ lt) ∙ same)
  ]
]

-- chains that end alike twice
pub alike_again : (id : List ℕ) (q : ℕ) (xs ys zs : List Run) → EndsAlike id q xs ys → EndsAlike id q ys zs → EndsAlike id q xs zs
alike_again id q xs ys zs a b i = b i ∙ a i

-- strings that agree one by one
pub joined_alike : (f g : ℕ → List ℕ) (n : ℕ) → ((i : ℕ) → i < n → f i ≡ g i) → joined f n ≡ joined g n
unfolding joined
joined_alike f g zero same = refl
joined_alike f g (suc n) same = rw (joined_alike f g n (λ i lt. same i (omega arith)), same n (omega arith)) refl

-- the next part of a buffer is written
pub put_next : (front rest new : List ℕ) (n k : ℕ) → length front ≡ n → put_mid n k (front ++ rest) new ≡ front ++ new ++ drop k rest
put_next front rest new n k e =
    let a : take n (front ++ rest) ≡ front = take_at front rest n e in
    let b : drop n (front ++ rest) ≡ rest = drop_at front rest n e in
    rw (a, b) (sym (append_assoc front new (drop k rest)))

-- two parts fill a buffer
pub both_written : (a b : List ℕ) (n k : ℕ) → length a ≡ n → drop {A = ℕ} k (replicate k 0) ≡ [] → put_mid n k (a ++ replicate k 0) b ≡ a ++ b
both_written a b n k e none = put_next a (replicate k 0) b n k e ∙ rw none (append-nil (a ++ b))

-- a step of a chain, by the place of its lane
pub at_place : (id : List ℕ) (q i n : ℕ) (r : Run) (y : List ℕ) → i ≡ n → y ≡ chain_step id q n r.at r.string → y ≡ chain_step id q i r.at r.string
at_place id q i n r y e h = rw e h

-- the numbers of a step, after the identifier
pub numbers_joined : (a b c d e : List ℕ) → a ++ (b ++ c ++ d) ++ e ≡ a ++ b ++ c ++ d ++ e
numbers_joined a b c d e = ap (λ (x : List ℕ). x ++ e) (sym (append_assoc a (b ++ c) d) ∙ ap (λ (x : List ℕ). x ++ d) (sym (append_assoc a b c)))
