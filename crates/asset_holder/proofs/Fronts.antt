-- What one more flow adds to sums, receivers and assets.
use Rattle.std.proofs.Common.{◌≡◌, ◌+◌, ◌*◌, ◌<◌, ◌≤◌, ◌^◌, ℕ, List, [], ◌∷◌, ◌++◌, Bool, true, false, cond, take, length, get_or, refl, sym, ◌∙◌, ap, subst, arith, fold}
use Rattle.std.proofs.lemmas.List.{length-take-le}
use Rattle.std.proofs.lemmas.List.Sums.{fold_more, sum_by-cons, sum_by-append}
use Rattle.std.specs.Prelude.{◌==◌, sum_by}
use Rattle.std.specs.Ordering.{nat_cmp}
use Rattle.std.specs.BTreeSet.{insert_key}
use Rattle.channel_values.specs.Outcomes.{is_same}
use Rattle.channel_values.specs.declared.value.Dest.{Dest}
use Rattle.call_history.specs.Flows.{is_person, is_outside, comes_from, brings, takes, enters}
use Rattle.call_history.specs.declared.funds.Flow.{Flow}
use Rattle.asset_holder.specs.Receipts.{add_new, receivers_of, assets_of, Pair}
use Rattle.asset_holder.specs.Sums.{pays_person, AreSmall}

pub assets_of_more : (flows : List Flow) (i : ℕ) (seen new : List ℕ) (d : Flow) → i < length flows → seen ≡ assets_of (take i flows) → new ≡ insert_key nat_cmp seen (get_or flows i d).asset → new ≡ assets_of (take (i + 1) flows)
assets_of_more flows i seen new d h before after =
    after ∙ ap (λ s. insert_key nat_cmp s (get_or flows i d).asset) before ∙ sym (fold_more (λ (s : List ℕ) (f : Flow). insert_key nat_cmp s f.asset) [] flows i d h)

fold_push : {A X : Type 0} (f : A → X → A) (a : A) (xs : List X) (y : X) → fold f a (xs ++ y ∷ []) ≡ f (fold f a xs) y
fold_push f a [] y = refl
fold_push f a (x ∷ xs) y = fold_push f (f a x) xs y

pub receivers_push : (flows : List Flow) (f : Flow) → receivers_of (flows ++ f ∷ []) ≡ add_new (receivers_of flows) (f.to, f.asset)
receivers_push flows f = fold_push (λ (seen : List Pair) (g : Flow). add_new seen (g.to, g.asset)) [] flows f

pub sum_push : (g : Flow → ℕ) (flows : List Flow) (f : Flow) → sum_by g (flows ++ f ∷ []) ≡ sum_by g flows + g f
sum_push g flows f = omega (arith, sum_by-append g flows (f ∷ []), sum_by-cons g f [])

length_push : (flows : List Flow) (f : Flow) → length (flows ++ f ∷ []) ≡ length flows + 1
length_push [] f = refl
length_push (g ∷ flows) f = omega (arith, length_push flows f)

pub small_push : (flows : List Flow) (f : Flow) → AreSmall flows → f.amount < 2 ^ 64 → AreSmall (flows ++ f ∷ [])
small_push flows f small fits = omega (arith, small, fits, sum_push (λ (g : Flow). g.amount) flows f, length_push flows f)

-- a sum of parts is within the sum of all
part : (b d : Bool) (n : ℕ) → cond b (cond d n 0) 0 ≤ n
part true true n = omega arith
part true false n = omega arith
part false d n = omega arith

within : (g : Flow → ℕ) → ((f : Flow) → g f ≤ f.amount) → (flows : List Flow) → sum_by g flows ≤ sum_by (λ (f : Flow). f.amount) flows
within g part [] = omega arith
within g part (f ∷ flows) = omega (arith, part f, within g part flows, sum_by-cons g f flows, sum_by-cons (λ (x : Flow). x.amount) f flows)

pub brings_part : (to : Dest) (asset : ℕ) (f : Flow) → brings to asset f ≤ f.amount
brings_part to asset f = part (is_same f.to to) (f.asset == asset) f.amount

pub takes_part : (channel : List ℕ) (asset : ℕ) (f : Flow) → takes channel asset f ≤ f.amount
takes_part channel asset f = part (comes_from channel f.from) (f.asset == asset) f.amount

pub enters_part : (asset : ℕ) (f : Flow) → enters asset f ≤ f.amount
enters_part asset f = part (is_outside f.from) (f.asset == asset) f.amount

pub pays_part : (asset : ℕ) (f : Flow) → pays_person asset f ≤ f.amount
pays_part asset f = part (is_person f.to) (f.asset == asset) f.amount

-- so it fits with one more amount
pub fits_more : (g : Flow → ℕ) → ((f : Flow) → g f ≤ f.amount) → (flows : List Flow) (i sum more : ℕ) → i < length flows → i < 2 ^ 64
    → AreSmall (take i flows) → more < 2 ^ 64 → sum ≡ sum_by g (take i flows) → sum + more < 2 ^ 128
fits_more g part flows i sum more at few small fits is =
    let long : length (take i flows) ≡ i = length-take-le i flows (omega (arith, at)) in
    let most : sum_by (λ (f : Flow). f.amount) (take i flows) ≤ 18446744073709551615 * i = subst (λ n. sum_by (λ (f : Flow). f.amount) (take i flows) ≤ 18446744073709551615 * n) long small in
    omega (arith, is, most, few, fits, within g part (take i flows))
