-- Items: what is due of one, where it is, and what lowering it takes.
use Rattle.std.proofs.Common.{◌≡◌, ℕ, zero, suc, ◌+◌, ◌-◌, ◌≤◌, Bool, true, false, cond, not, List, [], ◌∷◌, refl, sym, ◌∙◌, ap, subst, arith}
use Rattle.std.specs.Prelude.{◌==◌, slice_get, Option, Some, None}
use Rattle.std.specs.Option.{option_map}
use Rattle.channel_values.specs.Outcomes.{is_same}
use Rattle.channel_values.specs.declared.value.AssetOutcome.{AssetOutcome}
use Rattle.channel_values.specs.declared.value.Dest.{Dest}
use Rattle.channel_values.specs.declared.value.Dest.TheVariants.{Person, Channel}
use Rattle.channel_values.specs.declared.value.Item.{Item}
use Rattle.channel_values.specs.declared.value.Shape.{Shape}
use Rattle.channel_values.specs.declared.value.Shape.TheVariants.{Allocation, Guarantee}
use Rattle.channel_values.specs.Amounts.{amt, before, due}
use Rattle.call_history.specs.Dues.{amount_at, dest_in, place_of, rest_of, shape_in}
use Rattle.call_history.specs.Rest.{less_paid, lower_at, lower_shape, lower_outcome}
use Rattle.call_history.specs.History.{item_dest}
use Rattle.call_history.proofs.Names.{bytes_eq_self}
use Rattle.call_history.proofs.Amounts.{due_cons, due_same, claim_affords}
use Rattle.call_history.proofs.Payouts.{same_dest, turned_eq}
use Rattle.funding_plans.specs.Shapes.{items_of, list_of}
use Rattle.share_laws.specs.Moved.{gain, due_at, IsAt}
use Rattle.channel_safety.proofs.Tests.{some-eq}
use Rattle.std.proofs.lemmas.Bool.{eqb-true}

pub is_same_self : (d : Dest) → is_same d d ≡ true
is_same_self (Person a) = bytes_eq_self a
is_same_self (Channel a) = bytes_eq_self a

pub due_at-is : (items : List Item) (i held : ℕ) → due_at items i held ≡ due (amount_at items) i held
due_at-is [] i held = omega arith
due_at-is (x ∷ xs) zero held = omega arith
due_at-is (x ∷ xs) (suc i) held = due_at-is xs i (held - x.amount) ∙ sym (due_cons x xs i held)

dest_less_paid : (paid : ℕ → ℕ) (n : ℕ) (items : List Item) (i : ℕ) →
    option_map (λ (x : Item). x.to) (slice_get (less_paid paid n items) i) ≡ option_map (λ (x : Item). x.to) (slice_get items i)
dest_less_paid paid n [] i = refl
dest_less_paid paid n (x ∷ xs) zero = refl
dest_less_paid paid n (x ∷ xs) (suc i) = dest_less_paid paid (suc n) xs i

at-dest : (items : List Item) (i : ℕ) (to : Dest) → option_map (λ (x : Item). x.to) (slice_get items i) ≡ Some to → IsAt items i to
at-dest [] i to e = cc
at-dest (x ∷ xs) zero to e = some-eq x.to to e
at-dest (x ∷ xs) (suc i) to e = at-dest xs i to e

pub at_rest : (paid : ℕ → ℕ) (items : List Item) (i : ℕ) (to : Dest) → item_dest (Some (Allocation items)) i ≡ Some to → IsAt (less_paid paid 0 items) i to
at_rest paid items i to e = at-dest (less_paid paid 0 items) i to (dest_less_paid paid 0 items i ∙ e)

-- ---- an item that is lowered

one_more : (n : ℕ) → 1 + n ≡ suc n
one_more n = omega arith

-- where the first item of a destination is lowered by no more than it has, its amount falls by all of that
pub lowered_first : (items : List Item) (to : Dest) (k : ℕ) (d : Dest) → k ≤ amount_at items (place_of items to) →
    amt (lower_at items (place_of items to) k) d + gain to d k ≤ amt items d
lowered_first [] to k d h = below (is_same to d) h
  where
    below : (t : Bool) → k ≤ 0 → 0 + cond t k 0 ≤ 0
    below true h = omega arith
    below false h = omega arith
lowered_first (x ∷ xs) to k d h = go (is_same x.to to) (same_dest x.to to) refl h (lowered_first xs to k d)
  where
    same : (t : Bool) → k ≤ x.amount → cond t (x.amount - k) (amt xs d) + cond t k 0 ≤ cond t x.amount (amt xs d)
    same true h = omega arith
    same false h = omega arith

    other : (t u : Bool) → (t ≡ true → u ≡ false) → amt (lower_at xs (place_of xs to) k) d + cond u k 0 ≤ amt xs d →
        cond t x.amount (amt (lower_at xs (place_of xs to) k) d) + cond u k 0 ≤ cond t x.amount (amt xs d)
    other true true e p = let f = e refl in cc
    other true false e p = omega arith
    other false u e p = p

    apart : is_same x.to to ≡ false → is_same x.to d ≡ true → is_same to d ≡ false
    apart n e = go (is_same to d) refl
      where
        go : (t : Bool) → is_same to d ≡ t → t ≡ false
        go true f =
            let here : x.to ≡ to = same_dest x.to d e ∙ sym (same_dest to d f) in
            let yes : is_same x.to to ≡ true = ap (λ (y : Dest). is_same x.to y) (sym here) ∙ is_same_self x.to in cc
        go false f = refl

    go : (t : Bool) → (t ≡ true → x.to ≡ to) → is_same x.to to ≡ t → k ≤ amount_at (x ∷ xs) (cond (not t) (1 + place_of xs to) 0) →
        (k ≤ amount_at xs (place_of xs to) → amt (lower_at xs (place_of xs to) k) d + gain to d k ≤ amt xs d) →
        amt (lower_at (x ∷ xs) (cond (not t) (1 + place_of xs to) 0) k) d + gain to d k ≤ amt (x ∷ xs) d
    go true is e h rec =
        subst (λ (y : Dest). cond (is_same x.to d) (x.amount - k) (amt xs d) + gain y d k ≤ cond (is_same x.to d) x.amount (amt xs d)) (is refl)
        (same (is_same x.to d) h)
    go false is e h rec =
        subst (λ (i : ℕ). amt (lower_at (x ∷ xs) i k) d + gain to d k ≤ amt (x ∷ xs) d) (sym (one_more (place_of xs to)))
        (other (is_same x.to d) (is_same to d) (apart e) (rec (subst (λ (i : ℕ). k ≤ amount_at (x ∷ xs) i) (one_more (place_of xs to)) h)))

-- ---- an outcome of which an item is lowered

pub shape-lowered : (os : List AssetOutcome) (asset place k a : ℕ) →
    shape_in (lower_outcome os asset place k) a ≡ option_map (λ shape. cond (asset == a) (lower_shape shape place k) shape) (shape_in os a)
shape-lowered [] asset place k a = refl
shape-lowered (o ∷ os) asset place k a = go (o.asset == a) (eqb-true o.asset a) (shape-lowered os asset place k a)
  where
    go : (t : Bool) → (t ≡ true → o.asset ≡ a) → shape_in (lower_outcome os asset place k) a ≡ option_map (λ shape. cond (asset == a) (lower_shape shape place k) shape) (shape_in os a) →
        cond t (Some (cond (o.asset == asset) (lower_shape o.shape place k) o.shape)) (shape_in (lower_outcome os asset place k) a)
        ≡ option_map (λ shape. cond (asset == a) (lower_shape shape place k) shape) (cond t (Some o.shape) (shape_in os a))
    go true is rec =
        ap (λ (b : Bool). Some (cond b (lower_shape o.shape place k) o.shape)) (ap (λ (m : ℕ). m == asset) (is refl) ∙ turned_eq a asset)
    go false is rec = rec

pub items-lowered : (t : Bool) (shape : Option Shape) (place k : ℕ) →
    items_of (option_map (λ x. cond t (lower_shape x place k) x) shape) ≡ cond t (lower_at (items_of shape) place k) (items_of shape)
items-lowered true None place k = refl
items-lowered true (Some (Allocation items)) place k = refl
items-lowered true (Some (Guarantee target list)) place k = refl
items-lowered false None place k = refl
items-lowered false (Some shape) place k = refl

pub list-lowered : (t : Bool) (shape : Option Shape) (place k : ℕ) → list_of (option_map (λ x. cond t (lower_shape x place k) x) shape) ≡ list_of shape
list-lowered true None place k = refl
list-lowered true (Some (Allocation items)) place k = refl
list-lowered true (Some (Guarantee target list)) place k = refl
list-lowered false None place k = refl
list-lowered false (Some shape) place k = refl

-- ---- what a claim leaves to those before in the list

pub claim_below : (paid : ℕ → ℕ) (items : List Item) (list : List Dest) (position held k : ℕ) → k ≡ due (rest_of paid items list) position held →
    k ≤ held - before (λ i. amt (less_paid paid 0 items) (dest_in list i)) position
claim_below paid items list position held k e =
    let same = due_same (rest_of paid items list) (λ i. amt (less_paid paid 0 items) (dest_in list i)) (claim_affords paid items list) position held in
    omega (arith, e, same)
