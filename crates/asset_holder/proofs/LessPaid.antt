-- Items less what was paid, one item more, and what is due of them.
use Rattle.std.proofs.Common.{◌≡◌, ℕ, zero, suc, ◌+◌, ◌<◌, ◌^◌, List, [], ◌∷◌, ◌++◌, length, length-append, refl, sym, ◌∙◌, ap, arith}
use Rattle.std.proofs.lemmas.List.{length-take-le, take_more}
use Rattle.std.specs.List.{AllByRecursion}
use Rattle.std.specs.Prelude.{◌-◌, ◌≤◌, min, take, slice_index_or}
use Rattle.channel_values.specs.Outcomes.{IsItem}
use Rattle.channel_values.specs.declared.value.Dest.{Dest}
use Rattle.channel_values.specs.declared.value.Item.{Item}
use Rattle.channel_values.specs.Amounts.{amt, due}
use Rattle.channel_values.specs.Places.{no_item, amount_at, dest_in}
use Rattle.call_history.specs.Dues.{rest_at, rest_of}
use Rattle.call_history.specs.Rest.{less_paid}
use Rattle.call_history.proofs.Amounts.{due_same, claim_affords}
use Rattle.call_history.proofs.Rests.{rest_at_less_paid}

pub length-less_paid : (paid : ℕ → ℕ) (n : ℕ) (items : List Item) → length (less_paid paid n items) ≡ length items
length-less_paid paid n [] = refl
length-less_paid paid n (x ∷ xs) = ap suc (length-less_paid paid (suc n) xs)

pub less_paid-push : (paid : ℕ → ℕ) (n : ℕ) (items : List Item) (x : Item)
    → less_paid paid n (items ++ x ∷ []) ≡ less_paid paid n items ++ record { to = x.to; amount = x.amount - paid (n + length items) } ∷ []
less_paid-push paid n [] x = ap (λ k. record { to = x.to; amount = x.amount - paid k } ∷ []) (plus_zero n)
  where
    plus_zero : (k : ℕ) → k ≡ k + 0
    plus_zero k = omega arith
less_paid-push paid n (y ∷ ys) x =
    ap (λ zs. record { to = y.to; amount = y.amount - paid n } ∷ zs) (less_paid-push paid (suc n) ys x)
    ∙ ap (λ k. record { to = y.to; amount = y.amount - paid n } ∷ less_paid paid (suc n) ys ++ record { to = x.to; amount = x.amount - paid k } ∷ []) (shift n (length ys))
  where
    shift : (a b : ℕ) → suc a + b ≡ a + suc b
    shift a b = omega arith

-- so a list of rests grows by the next item's
pub rest_goes_on : (paid : ℕ → ℕ) (items rest new : List Item) (place p n : ℕ) → place < length items → length rest ≡ place → rest ≡ less_paid paid 0 (take place items)
    → p ≡ paid place → n ≡ amount_at items place - p → new ≡ rest ++ record { to = (slice_index_or items place no_item).to; amount = n } ∷ []
    → (place + 1 ≤ length items) × (length new ≡ place + 1) × (new ≡ less_paid paid 0 (take (place + 1) items))
rest_goes_on paid items rest new place p n within counted same was left grown =
    let x = slice_index_or items place no_item in
    let within_or_end : place ≤ length items = omega (arith, within) in
    let at : place ≡ 0 + length (take place items) = omega (arith, length-take-le place items within_or_end) in (
      omega (arith, within),
      ap length grown ∙ length-append rest (record { to = x.to; amount = n } ∷ []) ∙ ap (λ k. k + 1) counted,
      grown
          ∙ ap (λ k. rest ++ record { to = x.to; amount = k } ∷ []) (left ∙ ap (λ k. x.amount - k) (was ∙ ap paid at))
          ∙ ap (λ xs. xs ++ record { to = x.to; amount = x.amount - paid (0 + length (take place items)) } ∷ []) same
          ∙ sym (less_paid-push paid 0 (take place items) x)
          ∙ ap (λ xs. less_paid paid 0 xs) (sym (take_more items place no_item within)),
    )

-- an item's amount is one of a valid allocation
pub amount_fits : (items : List Item) → AllByRecursion IsItem items → (i : ℕ) → amount_at items i < 2 ^ 64
amount_fits [] all i = omega arith
amount_fits (x ∷ xs) all zero = all.0.1
amount_fits (x ∷ xs) all (suc i) = amount_fits xs all.1 i

-- what is afforded of the rests is what is due of them
pub affordable_is_due : (paid : ℕ → ℕ) (items : List Item) (i held : ℕ) → due (amount_at (less_paid paid 0 items)) i held ≡ due (rest_at paid items) i held
affordable_is_due paid items i held = due_same (amount_at (less_paid paid 0 items)) (rest_at paid items) (rest_at_less_paid paid items) i held

pub claimable_is_due : (paid : ℕ → ℕ) (items : List Item) (list : List Dest) (position held : ℕ)
    → due (λ k. amt (less_paid paid 0 items) (dest_in list k)) position held ≡ due (rest_of paid items list) position held
claimable_is_due paid items list position held =
    due_same (λ k. amt (less_paid paid 0 items) (dest_in list k)) (rest_of paid items list) (λ k. sym (claim_affords paid items list k)) position held

-- with what is due of it an item isn't paid more than its amount
pub due_fits : (paid : ℕ → ℕ) (items : List Item) (place left n : ℕ) → AllByRecursion IsItem items → n ≡ min (rest_at paid items place) left → 0 < n → paid place + n < 2 ^ 64
due_fits paid items place left n all is some = omega (arith, amount_fits items all place)
