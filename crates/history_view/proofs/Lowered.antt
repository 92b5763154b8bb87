-- An item lowered at its place; an outcome with one item lowered is an outcome.
use Rattle.std.proofs.Common.{◌≡◌, ℕ, zero, suc, ◌+◌, ◌-◌, ◌<◌, ◌≤◌, List, [], ◌∷◌, ◌++◌, Bool, true, false, cond, length, set, get_or, refl, sym, ◌∙◌, ap, arith}
use Rattle.std.specs.Prelude.{◌==◌, ◌||◌, take}
use Rattle.std.proofs.lemmas.List.{take_more}
use Rattle.std.proofs.lemmas.List.Sums.{sum_by-cons}
use Rattle.std.specs.List.{AllByRecursion, list_any}
use Rattle.channel_values.specs.Outcomes.{pays_same, total, is_unordered, AreApart, AreItems, IsItem, IsShape, IsAssetOutcome, IsOutcome}
use Rattle.channel_values.specs.declared.value.AssetOutcome.{AssetOutcome}
use Rattle.channel_values.specs.declared.value.Item.{Item}
use Rattle.channel_values.specs.declared.value.Shape.{Shape}
use Rattle.channel_values.specs.declared.value.Shape.TheVariants.{Allocation, Guarantee}
use Rattle.call_history.specs.Rest.{lower_at, lower_shape, lower_outcome}

-- ---- at the place

pub lower_there : (items : List Item) (place amount : ℕ) (d : Item) → place < length items
    → set items place (record { to = (get_or items place d).to; amount = (get_or items place d).amount - amount }) ≡ lower_at items place amount
lower_there [] place amount d lt = absurd (omega (arith, lt))
lower_there (x ∷ xs) zero amount d lt = refl
lower_there (x ∷ xs) (suc place) amount d lt = ap (λ (ys : List Item). x ∷ ys) (lower_there xs place amount d (omega (arith, lt)))

pub lower_past : (items : List Item) (place amount : ℕ) → length items ≤ place → items ≡ lower_at items place amount
lower_past [] place amount le = refl
lower_past (x ∷ xs) zero amount le = absurd (omega (arith, le))
lower_past (x ∷ xs) (suc place) amount le = ap (λ (ys : List Item). x ∷ ys) (lower_past xs place amount (omega (arith, le)))

pub lower_outcome-append : (os more : List AssetOutcome) (asset place amount : ℕ) → lower_outcome (os ++ more) asset place amount ≡ lower_outcome os asset place amount ++ lower_outcome more asset place amount
lower_outcome-append [] more asset place amount = refl
lower_outcome-append (o ∷ os) more asset place amount =
    ap (λ (ys : List AssetOutcome). record { asset = o.asset; shape = cond (o.asset == asset) (lower_shape o.shape place amount) o.shape } ∷ ys) (lower_outcome-append os more asset place amount)

-- one asset more
pub lower_more : (os : List AssetOutcome) (asset place amount i : ℕ) (o less : AssetOutcome) (before after : List AssetOutcome) → i < length os → o ≡ get_or os i o
    → lower_outcome (o ∷ []) asset place amount ≡ less ∷ [] → before ≡ lower_outcome (take i os) asset place amount → after ≡ before ++ less ∷ []
    → after ≡ lower_outcome (take (i + 1) os) asset place amount
lower_more os asset place amount i o less before after lt at lowered so_far pushed =
    pushed
    ∙ ap (λ (xs : List AssetOutcome). xs ++ less ∷ []) so_far
    ∙ ap (λ (xs : List AssetOutcome). lower_outcome (take i os) asset place amount ++ xs) (sym lowered)
    ∙ sym (lower_outcome-append (take i os) (o ∷ []) asset place amount)
    ∙ ap (λ (x : AssetOutcome). lower_outcome (take i os ++ x ∷ []) asset place amount) at
    ∙ ap (λ (xs : List AssetOutcome). lower_outcome xs asset place amount) (sym (take_more os i o lt))

-- ---- items stay items

length_lowered : (items : List Item) (place amount : ℕ) → length (lower_at items place amount) ≡ length items
length_lowered [] place amount = refl
length_lowered (x ∷ xs) zero amount = refl
length_lowered (x ∷ xs) (suc place) amount = ap suc (length_lowered xs place amount)

each_lowered : (items : List Item) (place amount : ℕ) → AllByRecursion IsItem items → AllByRecursion IsItem (lower_at items place amount)
each_lowered [] place amount all = all
each_lowered (x ∷ xs) zero amount all = ((all.0.0, omega (arith, all.0.1)), all.1)
each_lowered (x ∷ xs) (suc place) amount all = (all.0, each_lowered xs place amount all.1)

meets_lowered : (item : Item) (items : List Item) (place amount : ℕ) → list_any (pays_same item) (lower_at items place amount) ≡ list_any (pays_same item) items
meets_lowered item [] place amount = refl
meets_lowered item (x ∷ xs) zero amount = refl
meets_lowered item (x ∷ xs) (suc place) amount = ap (λ (b : Bool). pays_same item x || b) (meets_lowered item xs place amount)

apart_lowered : (items : List Item) (place amount : ℕ) → AreApart pays_same items → AreApart pays_same (lower_at items place amount)
apart_lowered [] place amount apart = apart
apart_lowered (x ∷ xs) zero amount apart = apart
apart_lowered (x ∷ xs) (suc place) amount apart = (meets_lowered x xs place amount ∙ apart.0, apart_lowered xs place amount apart.1)

total_lowered : (items : List Item) (place amount : ℕ) → total (lower_at items place amount) ≤ total items
total_lowered [] place amount = omega arith
total_lowered (x ∷ xs) zero amount =
    let amount_of = λ (item : Item). item.amount in
    omega (arith, sum_by-cons amount_of (record { to = x.to; amount = x.amount - amount }) xs, sum_by-cons amount_of x xs)
total_lowered (x ∷ xs) (suc place) amount =
    let amount_of = λ (item : Item). item.amount in
    omega (arith, total_lowered xs place amount, sum_by-cons amount_of x (lower_at xs place amount), sum_by-cons amount_of x xs)

items_lowered : (items : List Item) (place amount : ℕ) → AreItems items → AreItems (lower_at items place amount)
items_lowered items place amount are =
    record {
      each = each_lowered items place amount are.each;
      apart = apart_lowered items place amount are.apart;
      within = omega (arith, total_lowered items place amount, are.within);
    }

shape_lowered : (shape : Shape) (place amount : ℕ) → IsShape shape → IsShape (lower_shape shape place amount)
shape_lowered (Allocation items) place amount is = (omega (arith, length_lowered items place amount, is.0), items_lowered items place amount is.1)
shape_lowered (Guarantee target list) place amount is = is

-- ---- outcomes stay outcomes

asset_lowered : (o : AssetOutcome) (b : Bool) (place amount : ℕ) → IsAssetOutcome o
    → IsAssetOutcome (record { asset = o.asset; shape = cond b (lower_shape o.shape place amount) o.shape })
asset_lowered o true place amount is = (is.0, shape_lowered o.shape place amount is.1)
asset_lowered o false place amount is = is

length_lowered_outcome : (os : List AssetOutcome) (asset place amount : ℕ) → length (lower_outcome os asset place amount) ≡ length os
length_lowered_outcome [] asset place amount = refl
length_lowered_outcome (o ∷ os) asset place amount = ap suc (length_lowered_outcome os asset place amount)

each_lowered_asset : (os : List AssetOutcome) (asset place amount : ℕ) → AllByRecursion IsAssetOutcome os → AllByRecursion IsAssetOutcome (lower_outcome os asset place amount)
each_lowered_asset [] asset place amount all = all
each_lowered_asset (o ∷ os) asset place amount all = (asset_lowered o (o.asset == asset) place amount all.0, each_lowered_asset os asset place amount all.1)

-- a test of the assets alone
meets_lowered_outcome : (o : AssetOutcome) (shape : Shape) (os : List AssetOutcome) (asset place amount : ℕ)
    → list_any (is_unordered (record { asset = o.asset; shape = shape })) (lower_outcome os asset place amount) ≡ list_any (is_unordered o) os
meets_lowered_outcome o shape [] asset place amount = refl
meets_lowered_outcome o shape (x ∷ xs) asset place amount = ap (λ (b : Bool). is_unordered o x || b) (meets_lowered_outcome o shape xs asset place amount)

rising_lowered : (os : List AssetOutcome) (asset place amount : ℕ) → AreApart is_unordered os → AreApart is_unordered (lower_outcome os asset place amount)
rising_lowered [] asset place amount apart = apart
rising_lowered (o ∷ os) asset place amount apart =
    (meets_lowered_outcome o (cond (o.asset == asset) (lower_shape o.shape place amount) o.shape) os asset place amount ∙ apart.0, rising_lowered os asset place amount apart.1)

pub lowered_is_outcome : (os : List AssetOutcome) (asset place amount : ℕ) → IsOutcome os → IsOutcome (lower_outcome os asset place amount)
lowered_is_outcome os asset place amount is = (
  omega (arith, length_lowered_outcome os asset place amount, is.0),
  record {
    each = each_lowered_asset os asset place amount is.1.each;
    rising = rising_lowered os asset place amount is.1.rising;
  },
)

pub empty_is_outcome : IsOutcome []
empty_is_outcome = (omega arith, record { each = tt; rising = tt })
