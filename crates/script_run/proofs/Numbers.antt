-- What the two have after the payments of a load, and that each payment is covered.
use Rattle.std.proofs.Common.{◌≡◌, ℕ, zero, suc, ◌+◌, ◌-◌, ◌*◌, ◌/◌, ◌%◌, ◌<◌, ◌≤◌, Bool, true, false, cond, List, [], ◌∷◌, ◌++◌, length, refl, sym, ◌∙◌, ap, subst, arith, codes}
use Rattle.std.specs.Prelude.{◌==◌, ◌^◌, if◌then◌else◌}
use Rattle.std.specs.Str.{bytes_eq}
use Rattle.script_run.specs.Load.{amount, drawn}
use Rattle.channel_node.specs.Playing.{signing_of}
use Rattle.script_run.specs.Finish.{all_covered, first_has, second_has, signs_first, signs_second, Enough}
use Rattle.script_run.proofs.Paying.{turns}
use Rattle.script_run.specs.Paying.{pays}
use Rattle.script_run.specs.Paying as told
use Rattle.script_run.proofs.Making.{signer_of, limit_is}
use Rattle.script_run.proofs.Scene.{amounts, length-amounts, whose-turn}

-- ---- one more payment after others

covered-more : (t : Bool) (x y : ℕ) (xs : List ℕ) (a : ℕ) → all_covered t x y xs → a ≤ cond (turns t xs) (first_has t x y xs) (second_has t x y xs) → all_covered t x y (xs ++ a ∷ [])
covered-more true x y [] a all le = (le, tt)
covered-more false x y [] a all le = (le, tt)
covered-more true x y (b ∷ xs) a all le = (all.0, covered-more false (x - b) (y + b) xs a all.1 le)
covered-more false x y (b ∷ xs) a all le = (all.0, covered-more true (x + b) (y - b) xs a all.1 le)

first-more : (t : Bool) (x y : ℕ) (xs : List ℕ) (a : ℕ) → first_has t x y (xs ++ a ∷ []) ≡ cond (turns t xs) (first_has t x y xs - a) (first_has t x y xs + a)
first-more true x y [] a = refl
first-more false x y [] a = refl
first-more true x y (b ∷ xs) a = first-more false (x - b) (y + b) xs a
first-more false x y (b ∷ xs) a = first-more true (x + b) (y - b) xs a

second-more : (t : Bool) (x y : ℕ) (xs : List ℕ) (a : ℕ) → second_has t x y (xs ++ a ∷ []) ≡ cond (turns t xs) (second_has t x y xs + a) (second_has t x y xs - a)
second-more true x y [] a = refl
second-more false x y [] a = refl
second-more true x y (b ∷ xs) a = second-more false (x - b) (y + b) xs a
second-more false x y (b ∷ xs) a = second-more true (x + b) (y - b) xs a

few-first : (t : Bool) (xs : List ℕ) → signs_first t xs ≤ length xs
few-first true [] = omega arith
few-first false [] = omega arith
few-first true (x ∷ xs) = let few = few-first false xs in omega (arith, few)
few-first false (x ∷ xs) = let few = few-first true xs in omega (arith, few)

few-second : (t : Bool) (xs : List ℕ) → signs_second t xs ≤ length xs
few-second true [] = omega arith
few-second false [] = omega arith
few-second true (x ∷ xs) = let few = few-second false xs in omega (arith, few)
few-second false (x ∷ xs) = let few = few-second true xs in omega (arith, few)

-- ---- the payments of a load

below-thousand : (n : ℕ) → n % 1000 ≤ 999
below-thousand n = omega arith

small : (seed place : ℕ) → amount seed place ≤ 999
small seed place = below-thousand (drawn seed place / 2 ^ 48)

-- who pays the next one
a-pays : (seed count : ℕ) (t : Bool) → (suc count % 2 == 1) ≡ t → pays (codes "A") seed (suc count) ≡ pays (codes "A") seed count + cond t (amount seed (suc count)) 0
a-pays seed count t e =
    ap (λ (b : Bool). pays (codes "A") seed count + (if bytes_eq (if b then codes "A" else codes "B") (codes "A") then amount seed (suc count) else 0)) e ∙ go t
  where
    go : (b : Bool) → pays (codes "A") seed count + (if bytes_eq (if b then codes "A" else codes "B") (codes "A") then amount seed (suc count) else 0) ≡ pays (codes "A") seed count + cond b (amount seed (suc count)) 0
    go true = refl
    go false = refl

b-pays : (seed count : ℕ) (t : Bool) → (suc count % 2 == 1) ≡ t → pays (codes "B") seed (suc count) ≡ pays (codes "B") seed count + cond t 0 (amount seed (suc count))
b-pays seed count t e =
    ap (λ (b : Bool). pays (codes "B") seed count + (if bytes_eq (if b then codes "A" else codes "B") (codes "B") then amount seed (suc count) else 0)) e ∙ go t
  where
    go : (b : Bool) → pays (codes "B") seed count + (if bytes_eq (if b then codes "A" else codes "B") (codes "B") then amount seed (suc count) else 0) ≡ pays (codes "B") seed count + cond b 0 (amount seed (suc count))
    go true = refl
    go false = refl

-- so many payments of at most 999: the first and the second paid this and have that
pub record Sums (count paid_a paid_b has_a has_b : ℕ) : Type 0 where
  pub few_a : paid_a ≤ 999 * count
  pub few_b : paid_b ≤ 999 * count
  pub first : has_a + paid_a ≡ 1000000 + paid_b
  pub second : has_b + paid_b ≡ 1000000 + paid_a

enough-a : (count a b x y n : ℕ) → Sums count a b x y → n ≤ 999 → count < 1000 → n ≤ x
enough-a count a b x y n s little few = let i = s.few_a in let j = s.first in omega (arith, i, j)

enough-b : (count a b x y n : ℕ) → Sums count a b x y → n ≤ 999 → count < 1000 → n ≤ y
enough-b count a b x y n s little few = let i = s.few_b in let j = s.second in omega (arith, i, j)

sums-a : (count a b x y n : ℕ) → Sums count a b x y → n ≤ 999 → count < 1000 → Sums (suc count) (a + n) (b + 0) (x - n) (y + n)
sums-a count a b x y n s little few =
    let i = s.few_a in let j = s.few_b in let k = s.first in let l = s.second in
    record { few_a = omega (arith, i); few_b = omega (arith, j); first = omega (arith, i, k); second = omega (arith, l) }

sums-b : (count a b x y n : ℕ) → Sums count a b x y → n ≤ 999 → count < 1000 → Sums (suc count) (a + 0) (b + n) (x + n) (y - n)
sums-b count a b x y n s little few =
    let i = s.few_a in let j = s.few_b in let k = s.first in let l = s.second in
    record { few_a = omega (arith, i); few_b = omega (arith, j); first = omega (arith, k); second = omega (arith, j, l) }

covers : (t : Bool) (count a b x y n : ℕ) → Sums count a b x y → n ≤ 999 → count < 1000 → n ≤ cond t x y
covers true count a b x y n s little few = enough-a count a b x y n s little few
covers false count a b x y n s little few = enough-b count a b x y n s little few

sums-by : (t : Bool) (count a b x y n : ℕ) → Sums count a b x y → n ≤ 999 → count < 1000
    → Sums (suc count) (a + cond t n 0) (b + cond t 0 n) (cond t (x - n) (x + n)) (cond t (y + n) (y - n))
sums-by true count a b x y n s little few = sums-a count a b x y n s little few
sums-by false count a b x y n s little few = sums-b count a b x y n s little few

-- numbers that are equal
same-sums : (count a a2 b b2 x x2 y y2 : ℕ) → a ≡ a2 → b ≡ b2 → x ≡ x2 → y ≡ y2 → Sums count a b x y → Sums count a2 b2 x2 y2
same-sums count a a2 b b2 x x2 y y2 ea eb ex ey s =
    record {
      few_a = subst (λ (k : ℕ). k ≤ 999 * count) ea s.few_a;
      few_b = subst (λ (k : ℕ). k ≤ 999 * count) eb s.few_b;
      first = sym (ap (λ (k : ℕ). k + a2) ex) ∙ sym (ap (λ (k : ℕ). x + k) ea) ∙ s.first ∙ ap (λ (k : ℕ). 1000000 + k) eb;
      second = sym (ap (λ (k : ℕ). k + b2) ey) ∙ sym (ap (λ (k : ℕ). y + k) eb) ∙ s.second ∙ ap (λ (k : ℕ). 1000000 + k) ea;
    }

abbrev pub has-a : (seed count : ℕ) → ℕ
has-a seed count = first_has true 1000000 1000000 (amounts seed count)

abbrev pub has-b : (seed count : ℕ) → ℕ
has-b seed count = second_has true 1000000 1000000 (amounts seed count)

pub record Covers (seed count : ℕ) : Type 0 where
  pub covered : all_covered true 1000000 1000000 (amounts seed count)
  pub sums : Sums count (pays (codes "A") seed count) (pays (codes "B") seed count) (has-a seed count) (has-b seed count)

less : (n : ℕ) → suc n ≤ 1000 → n ≤ 1000
less n le = omega arith

pub payments_are_covered : (seed count : ℕ) → count ≤ 1000 → Covers seed count
payments_are_covered seed zero few = record { covered = tt; sums = record { few_a = omega arith; few_b = omega arith; first = refl; second = refl } }
payments_are_covered seed (suc count) few =
    let before : Covers seed count = payments_are_covered seed count (less count few) in
    let xs : List ℕ = amounts seed count in
    let t : Bool = turns true xs in
    let n : ℕ = amount seed (suc count) in
    let a : ℕ = pays (codes "A") seed count in
    let b : ℕ = pays (codes "B") seed count in
    record {
      covered = covered-more true 1000000 1000000 xs n before.covered (covers t count a b (has-a seed count) (has-b seed count) n before.sums (small seed (suc count)) few);
      sums = same-sums (suc count) (a + cond t n 0) (pays (codes "A") seed (suc count)) (b + cond t 0 n) (pays (codes "B") seed (suc count))
          (cond t (has-a seed count - n) (has-a seed count + n)) (has-a seed (suc count)) (cond t (has-b seed count + n) (has-b seed count - n)) (has-b seed (suc count))
          (sym (a-pays seed count t (whose-turn seed count))) (sym (b-pays seed count t (whose-turn seed count)))
          (sym (first-more true 1000000 1000000 xs n)) (sym (second-more true 1000000 1000000 xs n))
          (sums-by t count a b (has-a seed count) (has-b seed count) n before.sums (small seed (suc count)) few);
    }

-- ---- what is left

some-a : (count a b x y : ℕ) → Sums count a b x y → count ≤ 1000 → 0 < x
some-a count a b x y s few = let i = s.few_a in let j = s.first in omega (arith, i, j)

some-b : (count a b x y : ℕ) → Sums count a b x y → count ≤ 1000 → 0 < y
some-b count a b x y s few = let i = s.few_b in let j = s.second in omega (arith, i, j)

pub a_has_some : (seed count : ℕ) → count ≤ 1000 → 0 < has-a seed count
a_has_some seed count few = some-a count (pays (codes "A") seed count) (pays (codes "B") seed count) (has-a seed count) (has-b seed count) (payments_are_covered seed count few).sums few

pub b_has_some : (seed count : ℕ) → count ≤ 1000 → 0 < has-b seed count
b_has_some seed count few = some-b count (pays (codes "A") seed count) (pays (codes "B") seed count) (has-a seed count) (has-b seed count) (payments_are_covered seed count few).sums few

rest-is : (x a b : ℕ) → x + a ≡ 1000000 + b → x ≡ 1000000 + b - a
rest-is x a b e = omega arith

pub a_has : (seed count : ℕ) → count ≤ 1000 → has-a seed count ≡ told.first_has seed count
a_has seed count few = rest-is (has-a seed count) (pays (codes "A") seed count) (pays (codes "B") seed count) (payments_are_covered seed count few).sums.first

pub b_has : (seed count : ℕ) → count ≤ 1000 → has-b seed count ≡ told.second_has seed count
b_has seed count few = rest-is (has-b seed count) (pays (codes "B") seed count) (pays (codes "A") seed count) (payments_are_covered seed count few).sums.second

-- ---- turns and indices

pub enough : (seed count : ℕ) → count ≤ 1000 → Enough (signer_of 65 seed) (signer_of 66 seed) 0 0 (amounts seed count)
enough seed count few = record {
  turns = turns-fit (length (amounts seed count)) count (length-amounts seed count) few;
  first = indices-fit (signs_first true (amounts seed count)) (length (amounts seed count)) count (signing_of (signer_of 65 seed)).limit (few-first true (amounts seed count)) (length-amounts seed count) few (limit_is 65 seed);
  second = indices-fit (signs_second true (amounts seed count)) (length (amounts seed count)) count (signing_of (signer_of 66 seed)).limit (few-second true (amounts seed count)) (length-amounts seed count) few (limit_is 66 seed);
}
  where
    turns-fit : (n count : ℕ) → n ≡ count → count ≤ 1000 → 6 + n < 2 ^ 48
    turns-fit n count e few = omega arith

    indices-fit : (k n count limit : ℕ) → k ≤ n → n ≡ count → count ≤ 1000 → limit ≡ 2 ^ 10 → suc (suc 0) + k < limit
    indices-fit k n count limit le e few is = omega arith
