-- The amount due by what stands before an item, and by what can still be reached, are one.
use Rattle.std.proofs.Common.{◌≡◌, ℕ, zero, suc, ◌+◌, List, [], ◌∷◌, Bool, true, false, cond, refl, sym, ◌∙◌, ap, arith}
use Rattle.std.specs.Prelude.{◌-◌, min, not}
use Rattle.channel_values.specs.Outcomes.{is_same}
use Rattle.channel_values.specs.declared.value.Dest.{Dest}
use Rattle.channel_values.specs.declared.value.Item.{Item}
use Rattle.channel_values.specs.Amounts.{amt, aff, before, due}
use Rattle.call_history.specs.Dues.{amount_at, dest_in, place_of, rest_at, rest_of}
use Rattle.call_history.specs.Rest.{less_paid}
use Rattle.call_history.proofs.Rests.{rest_at_less_paid, place_less_paid}

one_more : (n : ℕ) → suc n ≡ 1 + n
one_more n = omega arith

before_cons : (x : Item) (xs : List Item) (i : ℕ) → before (amount_at (x ∷ xs)) (suc i) ≡ x.amount + before (amount_at xs) i
before_cons x xs zero = omega arith
before_cons x xs (suc i) = omega (arith, before_cons x xs i)

-- an item more in front takes its amount first
pub due_cons : (x : Item) (xs : List Item) (i h : ℕ) → due (amount_at (x ∷ xs)) (suc i) h ≡ due (amount_at xs) i (h - x.amount)
due_cons x xs i h = omega (arith, before_cons x xs i)

-- what a destination is afforded is what is due of its item
pub aff_is_due : (items : List Item) (reach : ℕ) (to : Dest) → aff items reach to ≡ due (amount_at items) (place_of items to) reach
aff_is_due [] reach to = omega arith
aff_is_due (x ∷ xs) reach to = go (is_same x.to to) (aff_is_due xs (reach - x.amount) to)
  where
    go : (b : Bool) → aff xs (reach - x.amount) to ≡ due (amount_at xs) (place_of xs to) (reach - x.amount) → cond b (min x.amount reach) (aff xs (reach - x.amount) to) ≡ due (amount_at (x ∷ xs)) (cond (not b) (1 + place_of xs to) 0) reach
    go true ih = omega arith
    go false ih = ih ∙ sym (due_cons x xs (place_of xs to) reach) ∙ ap (λ i. due (amount_at (x ∷ xs)) i reach) (one_more (place_of xs to))

pub amt_is_amount : (items : List Item) (to : Dest) → amt items to ≡ amount_at items (place_of items to)
amt_is_amount [] to = refl
amt_is_amount (x ∷ xs) to = go (is_same x.to to) (amt_is_amount xs to)
  where
    go : (b : Bool) → amt xs to ≡ amount_at xs (place_of xs to) → cond b x.amount (amt xs to) ≡ amount_at (x ∷ xs) (cond (not b) (1 + place_of xs to) 0)
    go true ih = refl
    go false ih = ih ∙ ap (λ i. amount_at (x ∷ xs) i) (one_more (place_of xs to))

before_same : (f g : ℕ → ℕ) → ((i : ℕ) → f i ≡ g i) → (n : ℕ) → before f n ≡ before g n
before_same f g h zero = refl
before_same f g h (suc n) = omega (arith, before_same f g h n, h n)

pub due_same : (f g : ℕ → ℕ) → ((i : ℕ) → f i ≡ g i) → (i balance : ℕ) → due f i balance ≡ due g i balance
due_same f g h i balance = omega (arith, before_same f g h i, h i)

-- what a transfer of a destination's item pays is what the rest affords it
pub transfer_affords : (paid : ℕ → ℕ) (items : List Item) (held : ℕ) (to : Dest)
    → due (rest_at paid items) (place_of items to) held ≡ aff (less_paid paid 0 items) held to
transfer_affords paid items held to =
    due_same (rest_at paid items) (amount_at (less_paid paid 0 items)) (λ i. sym (rest_at_less_paid paid items i)) (place_of items to) held
    ∙ ap (λ i. due (amount_at (less_paid paid 0 items)) i held) (sym (place_less_paid paid 0 items to))
    ∙ sym (aff_is_due (less_paid paid 0 items) held to)

-- what is left for a destination of a guarantee's list is the amount of its item in the target's rest
pub claim_affords : (paid : ℕ → ℕ) (items : List Item) (list : List Dest) (position : ℕ)
    → rest_of paid items list position ≡ amt (less_paid paid 0 items) (dest_in list position)
claim_affords paid items list position =
    let to = dest_in list position in
    sym (rest_at_less_paid paid items (place_of items to))
    ∙ ap (λ i. amount_at (less_paid paid 0 items) i) (sym (place_less_paid paid 0 items to))
    ∙ sym (amt_is_amount (less_paid paid 0 items) to)
