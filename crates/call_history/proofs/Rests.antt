-- Items less what was paid: their amounts, their places, and one payment more.
use Rattle.std.proofs.Common.{◌≡◌, ℕ, zero, suc, ◌+◌, ◌≤◌, List, [], ◌∷◌, Bool, true, false, cond, refl, ◌∙◌, ap, arith}
use Rattle.std.proofs.lemmas.Bool.{eqb-true, eq-eqb}
use Rattle.std.specs.Prelude.{◌-◌, ◌==◌, not}
use Rattle.channel_values.specs.Outcomes.{is_same}
use Rattle.channel_values.specs.declared.value.Dest.{Dest}
use Rattle.channel_values.specs.declared.value.Item.{Item}
use Rattle.call_history.specs.Dues.{amount_at, place_of, rest_at}
use Rattle.call_history.specs.Rest.{less_paid, lower_at}

pub amount_less_paid : (paid : ℕ → ℕ) (n : ℕ) (items : List Item) (i : ℕ) → amount_at (less_paid paid n items) i ≡ amount_at items i - paid (n + i)
amount_less_paid paid n [] i = omega arith
amount_less_paid paid n (x ∷ xs) zero = ap (λ k. x.amount - paid k) (plus_zero n)
  where
    plus_zero : (k : ℕ) → k ≡ k + 0
    plus_zero k = omega arith
amount_less_paid paid n (x ∷ xs) (suc i) = amount_less_paid paid (suc n) xs i ∙ ap (λ k. amount_at xs i - paid k) (shift n i)
  where
    shift : (a b : ℕ) → suc a + b ≡ a + suc b
    shift a b = omega arith

-- so a due over the rest of the items is one over the items and what was paid
pub rest_at_less_paid : (paid : ℕ → ℕ) (items : List Item) (i : ℕ) → amount_at (less_paid paid 0 items) i ≡ rest_at paid items i
rest_at_less_paid paid items i = amount_less_paid paid 0 items i ∙ ap (λ k. amount_at items i - paid k) (zero_plus i)
  where
    zero_plus : (k : ℕ) → 0 + k ≡ k
    zero_plus k = omega arith

pub place_less_paid : (paid : ℕ → ℕ) (n : ℕ) (items : List Item) (to : Dest) → place_of (less_paid paid n items) to ≡ place_of items to
place_less_paid paid n [] to = refl
place_less_paid paid n (x ∷ xs) to = ap (λ m. cond (not (is_same x.to to)) (1 + m) 0) (place_less_paid paid (suc n) xs to)

pub less_paid_same : (p q : ℕ → ℕ) (n : ℕ) (items : List Item) → ((i : ℕ) → n ≤ i → p i ≡ q i) → less_paid p n items ≡ less_paid q n items
less_paid_same p q n [] h = refl
less_paid_same p q n (x ∷ xs) h =
    ap (λ k. record { to = x.to; amount = x.amount - k } ∷ less_paid p (suc n) xs) (h n (le n))
    ∙ ap (λ ys. record { to = x.to; amount = x.amount - q n } ∷ ys) (less_paid_same p q (suc n) xs (λ i l. h i (down n i l)))
  where
    le : (k : ℕ) → k ≤ k
    le k = omega arith

    down : (k i : ℕ) → suc k ≤ i → k ≤ i
    down k i l = omega arith

-- one payment more lowers its item
pub less_paid_more : (p q : ℕ → ℕ) (n j t amount : ℕ) (items : List Item) → t ≡ n + j → ((i : ℕ) → q i ≡ p i + cond (i == t) amount 0)
    → less_paid q n items ≡ lower_at (less_paid p n items) j amount
less_paid_more p q n j t amount [] e h = refl
less_paid_more p q n zero t amount (x ∷ xs) e h =
    ap (λ k. record { to = x.to; amount = k } ∷ less_paid q (suc n) xs) (here x.amount (p n) (q n) (h n ∙ ap (λ b. p n + cond b amount 0) (eq-eqb n t (at n t e))))
    ∙ ap (λ ys. record { to = x.to; amount = (x.amount - p n) - amount } ∷ ys) (less_paid_same q p (suc n) xs (λ i l. h i ∙ apart i (i == t) refl l))
  where
    at : (a b : ℕ) → b ≡ a + 0 → a ≡ b
    at a b f = omega arith

    here : (x p q : ℕ) → q ≡ p + amount → x - q ≡ (x - p) - amount
    here x p q f = omega arith

    apart : (i : ℕ) (b : Bool) → (i == t) ≡ b → suc n ≤ i → p i + cond b amount 0 ≡ p i
    apart i false f l = omega arith
    apart i true f l = let same : i ≡ t = eqb-true i t f in absurd (omega arith)
less_paid_more p q n (suc j) t amount (x ∷ xs) e h =
    ap (λ k. record { to = x.to; amount = x.amount - k } ∷ less_paid q (suc n) xs) (h n ∙ before (n == t) refl)
    ∙ ap (λ ys. record { to = x.to; amount = x.amount - p n } ∷ ys) (less_paid_more p q (suc n) j t amount xs (shift e) h)
  where
    shift : t ≡ n + suc j → t ≡ suc n + j
    shift f = omega arith

    before : (b : Bool) → (n == t) ≡ b → p n + cond b amount 0 ≡ p n
    before false f = omega arith
    before true f = let same : n ≡ t = eqb-true n t f in absurd (omega arith)
