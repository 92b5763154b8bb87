-- What items afford at a reach.
use Rattle.std.proofs.Common.{◌≡◌, ℕ, ◌+◌, ◌-◌, ◌≤◌, min, Bool, true, false, ◌||◌, List, [], ◌∷◌, refl, sym, subst, arith, cond}
use Rattle.std.proofs.lemmas.Bool.{false≢true}
use Rattle.std.proofs.lemmas.Grind.{common_steps}
use Rattle.channel_values.specs.declared.value.Dest.{Dest}
use Rattle.channel_values.specs.declared.value.Item.{Item}
use Rattle.channel_values.specs.Outcomes.{is_same, total}
use Rattle.channel_values.specs.Amounts.{amt, has, aff}
use Rattle.share_laws.specs.Funded.{up_to}

pub total-cons : (x : Item) (xs : List Item) → total (x ∷ xs) ≡ x.amount + total xs
total-cons x xs = grind (arith, common_steps)

pub aff-zero : (xs : List Item) (d : Dest) → aff xs 0 d ≡ 0
aff-zero [] d = refl
aff-zero (x ∷ xs) d =
    let e : 0 - x.amount ≡ 0 = omega arith in
    let f : min x.amount 0 ≡ 0 = omega arith in
    let g : aff xs (0 - x.amount) d ≡ 0 = subst (λ (q : ℕ). aff xs q d ≡ 0) (sym e) (aff-zero xs d) in
    both-zero (is_same x.to d) _ _ f g
  where
    both-zero : (t : Bool) (x y : ℕ) → x ≡ 0 → y ≡ 0 → cond t x y ≡ 0
    both-zero true x y p q = p
    both-zero false x y p q = q

pub aff-mono : (xs : List Item) (r q : ℕ) (d : Dest) → r ≤ q → aff xs r d ≤ aff xs q d
aff-mono [] r q d le = omega arith
aff-mono (x ∷ xs) r q d le = by_test (is_same x.to d) (aff-mono xs (r - x.amount) (q - x.amount) d (omega (arith, le)))
  where
    by_test : (t : Bool) → aff xs (r - x.amount) d ≤ aff xs (q - x.amount) d →
        cond t (min x.amount r) (aff xs (r - x.amount) d) ≤ cond t (min x.amount q) (aff xs (q - x.amount) d)
    by_test true h = omega (arith, le)
    by_test false h = h

-- a reach of the items up to d's affords d's amount
pub aff-up_to : (xs : List Item) (r : ℕ) (d : Dest) → up_to xs d ≤ r → aff xs r d ≡ amt xs d
aff-up_to [] r d h = refl
aff-up_to (x ∷ xs) r d h = by_test (is_same x.to d) h (aff-up_to xs (r - x.amount) d)
  where
    by_test : (t : Bool) → cond t x.amount (x.amount + up_to xs d) ≤ r →
        (up_to xs d ≤ r - x.amount → aff xs (r - x.amount) d ≡ amt xs d) →
        cond t (min x.amount r) (aff xs (r - x.amount) d) ≡ cond t x.amount (amt xs d)
    by_test true h rest = omega arith
    by_test false h rest = rest (omega arith)

pub up_to-total : (xs : List Item) (d : Dest) → up_to xs d ≤ total xs
up_to-total [] d = omega arith
up_to-total (x ∷ xs) d = by_test (is_same x.to d) (up_to-total xs d) (total-cons x xs)
  where
    by_test : (t : Bool) → up_to xs d ≤ total xs → total (x ∷ xs) ≡ x.amount + total xs → cond t x.amount (x.amount + up_to xs d) ≤ total (x ∷ xs)
    by_test true h e = omega arith
    by_test false h e = omega arith

-- a reach of all items affords each its amount
pub aff-full : (xs : List Item) (r : ℕ) (d : Dest) → total xs ≤ r → aff xs r d ≡ amt xs d
aff-full xs r d h = aff-up_to xs r d (let p = up_to-total xs d in omega (arith, p))

pub amt-up_to : (xs : List Item) (d : Dest) → amt xs d ≤ up_to xs d
amt-up_to [] d = omega arith
amt-up_to (x ∷ xs) d = by_test (is_same x.to d) (amt-up_to xs d)
  where
    by_test : (t : Bool) → amt xs d ≤ up_to xs d → cond t x.amount (amt xs d) ≤ cond t x.amount (x.amount + up_to xs d)
    by_test true h = omega arith
    by_test false h = omega arith

pub amt-unnamed : (xs : List Item) (d : Dest) → has xs d ≡ false → amt xs d ≡ 0
amt-unnamed [] d h = refl
amt-unnamed (x ∷ xs) d h = by_test (is_same x.to d) h (amt-unnamed xs d)
  where
    by_test : (t : Bool) → (t || has xs d) ≡ false → (has xs d ≡ false → amt xs d ≡ 0) → cond t x.amount (amt xs d) ≡ 0
    by_test true e r = absurd (false≢true (sym e))
    by_test false e r = r e
