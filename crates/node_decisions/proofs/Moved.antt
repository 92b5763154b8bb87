-- An amount that somebody has can be moved: the outcome of the payment is one.
use Rattle.std.proofs.Common.{◌≡◌, ℕ, ◌+◌, ◌-◌, ◌<◌, ◌≤◌, ◌^◌, ◌==◌, Bool, true, false, cond, ◌||◌, Some, List, [], ◌∷◌, map, refl, sym, ◌∙◌, ap, subst, arith}
use Rattle.std.specs.Prelude.{nat_le, Result, Ok, Err, IfErr}
use Rattle.std.specs.List.{AllByRecursion, list_any}
use Rattle.std.proofs.lemmas.List.{length-map}
use Rattle.std.proofs.lemmas.List.Sums.{sum_by-cons}
use Rattle.channel_values.specs.declared.value.AssetOutcome.{AssetOutcome}
use Rattle.channel_values.specs.declared.value.Dest.{Dest}
use Rattle.channel_values.specs.declared.value.Item.{Item}
use Rattle.channel_values.specs.declared.value.Shape.{Shape}
use Rattle.channel_values.specs.declared.value.Shape.TheVariants.{Allocation, Guarantee}
use Rattle.channel_values.specs.Outcomes.{is_same, pays_same, is_unordered, total, AreApart, IsDest, IsItem, IsShape, IsAssetOutcome, IsOutcome}
use Rattle.support_rules.specs.Rules.{total_of}
use Rattle.channel_safety.proofs.Tests.{eqb-true, eqb-false, le-false}
use Rattle.call_history.proofs.Payouts.{same_dest}
use Rattle.channel_values.specs.Amounts.{amt, has}
use Rattle.call_history.specs.Dues.{shape_in}
use Rattle.funding_plans.specs.Shapes.{items_of, items_in}
use Rattle.channel_node.specs.Refusing.{moved_item, moved_shape, moved_asset, moved}
use Rattle.channel_values.specs.declared.fault.ByteFault.{ByteFault}
use Rattle.channel_values.specs.declared.fault.ByteFault.TheVariants.{NoMemory}
use Rattle.channel_values.specs.Parts.{StateParts, IsState, state_with}
use Rattle.channel_values.specs.Reading.{Fails, Gives}
use Rattle.support_rules.proofs.Making.{fault_of_memory}
use Rattle.node_decisions.specs.Paying.{AreWithin}
use Rattle.node_decisions.specs.declared.moving.Payment.{Payment}

-- ---- lists of which no element meets a later one

or_left : (a b : Bool) → (a || b) ≡ false → a ≡ false
or_left true b e = absurd cc
or_left false b e = refl

or_right : (a b : Bool) → (a || b) ≡ false → b ≡ false
or_right true b e = absurd cc
or_right false b e = e

same_any : {X : Type 0} (p q : X → Bool) (f : X → X) → ((x : X) → p (f x) ≡ q x) → (xs : List X) → list_any p (map f xs) ≡ list_any q xs
same_any p q f same [] = refl
same_any p q f same (x ∷ xs) = ap (λ b. b || list_any p (map f xs)) (same x) ∙ ap (λ b. q x || b) (same_any p q f same xs)

stays_apart : {X : Type 0} (meets : X → X → Bool) (f : X → X) → ((x y : X) → meets (f x) (f y) ≡ meets x y) → (xs : List X) → AreApart meets xs → AreApart meets (map f xs)
stays_apart meets f same [] h = tt
stays_apart meets f same (x ∷ xs) h = (same_any (meets (f x)) (meets x) f (same x) xs ∙ h.0, stays_apart meets f same xs h.1)

-- ---- one item

module _ (from to : Dest) (a : ℕ) where
  lowers : (x : Item) → is_same x.to from ≡ true → (moved_item from to a x).amount ≡ x.amount - a
  lowers x e = ap (λ b. (cond b (record x { amount = x.amount - a }) (cond (is_same x.to to) (record x { amount = x.amount + a }) x)).amount) e

  raises : (x : Item) → is_same x.to from ≡ false → is_same x.to to ≡ true → (moved_item from to a x).amount ≡ x.amount + a
  raises x e f =
      ap (λ b. (cond b (record x { amount = x.amount - a }) (cond (is_same x.to to) (record x { amount = x.amount + a }) x)).amount) e
      ∙ ap (λ b. (cond b (record x { amount = x.amount + a }) x).amount) f

  leaves : (x : Item) → is_same x.to from ≡ false → is_same x.to to ≡ false → (moved_item from to a x).amount ≡ x.amount
  leaves x e f =
      ap (λ b. (cond b (record x { amount = x.amount - a }) (cond (is_same x.to to) (record x { amount = x.amount + a }) x)).amount) e
      ∙ ap (λ b. (cond b (record x { amount = x.amount + a }) x).amount) f

  keeps_dest : (x : Item) → (moved_item from to a x).to ≡ x.to
  keeps_dest x = go (is_same x.to from) (is_same x.to to)
    where
      go : (b c : Bool) → (cond b (record x { amount = x.amount - a }) (cond c (record x { amount = x.amount + a }) x)).to ≡ x.to
      go true c = refl
      go false true = refl
      go false false = refl

  same_pays : (x y : Item) → pays_same (moved_item from to a x) (moved_item from to a y) ≡ pays_same x y
  same_pays x y = ap (λ (d : Dest). is_same d (moved_item from to a y).to) (keeps_dest x) ∙ ap (is_same x.to) (keeps_dest y)

  -- ---- what the items add up to

  abbrev after : List Item → List Item
  after items = map (moved_item from to a) items

  adds : (x : Item) (xs : List Item) → total (x ∷ xs) ≡ x.amount + total xs
  adds x xs = sum_by-cons (λ (item : Item). item.amount) x xs

  abbrev At : (Item → List Item → Type 0) → Item → List Item → Type 0
  At P x xs = (lower : is_same x.to from ≡ true → P x xs) → (raise : is_same x.to from ≡ false → is_same x.to to ≡ true → P x xs) → (leave : is_same x.to from ≡ false → is_same x.to to ≡ false → P x xs) → P x xs

  by_kind : (P : Item → List Item → Type 0) (x : Item) (xs : List Item) → At P x xs
  by_kind P x xs lower raise leave = go (is_same x.to from) refl (is_same x.to to) refl
    where
      go : (b : Bool) → is_same x.to from ≡ b → (c : Bool) → is_same x.to to ≡ c → P x xs
      go true e c f = lower e
      go false e true f = raise e f
      go false e false f = leave e f

  apart_lacks : (d : Dest) (x : Item) (xs : List Item) → is_same x.to d ≡ true → list_any (pays_same x) xs ≡ false → has xs d ≡ false
  apart_lacks d x [] e h = refl
  apart_lacks d x (y ∷ ys) e h = go (is_same y.to d) refl (apart_lacks d x ys e (or_right (pays_same x y) (list_any (pays_same x) ys) h))
    where
      x_is : x.to ≡ d
      x_is = same_dest x.to d e

      go : (b : Bool) → is_same y.to d ≡ b → has ys d ≡ false → (b || has ys d) ≡ false
      go true f none =
          let meets : pays_same x y ≡ true = ap (is_same x.to) (same_dest y.to d f) ∙ e in
          absurd (cc (or_left (pays_same x y) (list_any (pays_same x) ys) h, meets))
      go false f none = none

  -- where nobody gets more
  falls : (xs : List Item) → has xs to ≡ false → total (after xs) ≤ total xs
  falls [] h = omega arith
  falls (x ∷ xs) h =
      let more : total (after (x ∷ xs)) ≡ (moved_item from to a x).amount + total (after xs) = adds (moved_item from to a x) (after xs) in
      let was : total (x ∷ xs) ≡ x.amount + total xs = adds x xs in
      let rest : total (after xs) ≤ total xs = falls xs (or_right (is_same x.to to) (has xs to) h) in
      by_kind (λ x xs. total (after (x ∷ xs)) ≤ total (x ∷ xs)) x xs
      (λ (e : is_same x.to from ≡ true). let l : (moved_item from to a x).amount ≡ x.amount - a = lowers x e in omega arith)
      (λ (e : is_same x.to from ≡ false) (f : is_same x.to to ≡ true). absurd (cc (f, or_left (is_same x.to to) (has xs to) h)))
      (λ (e : is_same x.to from ≡ false) (f : is_same x.to to ≡ false). let l : (moved_item from to a x).amount ≡ x.amount = leaves x e f in omega arith)

  -- one gets the amount, once
  rises : (xs : List Item) → AreApart pays_same xs → total (after xs) ≤ total xs + a
  rises [] h = omega arith
  rises (x ∷ xs) h =
      let more : total (after (x ∷ xs)) ≡ (moved_item from to a x).amount + total (after xs) = adds (moved_item from to a x) (after xs) in
      let was : total (x ∷ xs) ≡ x.amount + total xs = adds x xs in
      let rest : total (after xs) ≤ total xs + a = rises xs h.1 in
      by_kind (λ x xs. total (after (x ∷ xs)) ≤ total (x ∷ xs) + a) x xs
      (λ (e : is_same x.to from ≡ true). let l : (moved_item from to a x).amount ≡ x.amount - a = lowers x e in omega arith)
      (λ (e : is_same x.to from ≡ false) (f : is_same x.to to ≡ true).
      let l : (moved_item from to a x).amount ≡ x.amount + a = raises x e f in
      let none : total (after xs) ≤ total xs = falls xs (apart_lacks to x xs f h.0) in omega arith)
      (λ (e : is_same x.to from ≡ false) (f : is_same x.to to ≡ false). let l : (moved_item from to a x).amount ≡ x.amount = leaves x e f in omega arith)

  amt_here : (x : Item) (xs : List Item) (b : Bool) → is_same x.to from ≡ b → amt (x ∷ xs) from ≡ cond b x.amount (amt xs from)
  amt_here x xs b e = ap (λ (t : Bool). cond t x.amount (amt xs from)) e

  -- nobody gets the amount that one gives
  gives : (xs : List Item) → has xs to ≡ false → a ≤ amt xs from → total (after xs) + a ≤ total xs
  gives [] h e = omega arith
  gives (x ∷ xs) h enough =
      let more : total (after (x ∷ xs)) ≡ (moved_item from to a x).amount + total (after xs) = adds (moved_item from to a x) (after xs) in
      let was : total (x ∷ xs) ≡ x.amount + total xs = adds x xs in
      by_kind (λ x xs. total (after (x ∷ xs)) + a ≤ total (x ∷ xs)) x xs
      (λ (e : is_same x.to from ≡ true).
      let l : (moved_item from to a x).amount ≡ x.amount - a = lowers x e in
      let here : amt (x ∷ xs) from ≡ x.amount = amt_here x xs true e in
      let rest : total (after xs) ≤ total xs = falls xs (or_right (is_same x.to to) (has xs to) h) in omega arith)
      (λ (e : is_same x.to from ≡ false) (f : is_same x.to to ≡ true). absurd (cc (f, or_left (is_same x.to to) (has xs to) h)))
      (λ (e : is_same x.to from ≡ false) (f : is_same x.to to ≡ false).
      let l : (moved_item from to a x).amount ≡ x.amount = leaves x e f in
      let there : amt (x ∷ xs) from ≡ amt xs from = amt_here x xs false e in
      let rest : total (after xs) + a ≤ total xs = gives xs (or_right (is_same x.to to) (has xs to) h) (subst (λ n. a ≤ n) there enough) in omega arith)

  -- what is there can be moved, and no more is there afterwards
  adds_no_more : (xs : List Item) → AreApart pays_same xs → a ≤ amt xs from → total (after xs) ≤ total xs
  adds_no_more [] h e = omega arith
  adds_no_more (x ∷ xs) h enough =
      let more : total (after (x ∷ xs)) ≡ (moved_item from to a x).amount + total (after xs) = adds (moved_item from to a x) (after xs) in
      let was : total (x ∷ xs) ≡ x.amount + total xs = adds x xs in
      by_kind (λ x xs. total (after (x ∷ xs)) ≤ total (x ∷ xs)) x xs
      (λ (e : is_same x.to from ≡ true).
      let l : (moved_item from to a x).amount ≡ x.amount - a = lowers x e in
      let here : amt (x ∷ xs) from ≡ x.amount = amt_here x xs true e in
      let rest : total (after xs) ≤ total xs + a = rises xs h.1 in omega arith)
      (λ (e : is_same x.to from ≡ false) (f : is_same x.to to ≡ true).
      let l : (moved_item from to a x).amount ≡ x.amount + a = raises x e f in
      let there : amt (x ∷ xs) from ≡ amt xs from = amt_here x xs false e in
      let rest : total (after xs) + a ≤ total xs = gives xs (apart_lacks to x xs f h.0) (subst (λ n. a ≤ n) there enough) in omega arith)
      (λ (e : is_same x.to from ≡ false) (f : is_same x.to to ≡ false).
      let l : (moved_item from to a x).amount ≡ x.amount = leaves x e f in
      let there : amt (x ∷ xs) from ≡ amt xs from = amt_here x xs false e in
      let rest : total (after xs) ≤ total xs = adds_no_more xs h.1 (subst (λ n. a ≤ n) there enough) in omega arith)

  -- ---- shapes and outcomes

  items_fit : (xs : List Item) → AllByRecursion IsItem xs → total (after xs) < 2 ^ 64 → AllByRecursion IsItem (after xs)
  items_fit [] h within = tt
  items_fit (x ∷ xs) h within =
      let more : total (after (x ∷ xs)) ≡ (moved_item from to a x).amount + total (after xs) = adds (moved_item from to a x) (after xs) in
      ((subst IsDest (sym (keeps_dest x)) h.0.0, omega arith), items_fit xs h.1 (omega arith))

  shape_fits : (xs : List Item) → IsShape (Allocation xs) → a ≤ amt xs from → IsShape (Allocation (after xs))
  shape_fits xs h enough =
      let within : total (after xs) < 2 ^ 64 =
      let least : total (after xs) ≤ total xs = adds_no_more xs h.1.apart enough in
      let below : total xs < 2 ^ 64 = h.1.within in omega arith in (
        subst (λ n. n ≤ 16) (sym (length-map xs (moved_item from to a))) h.0,
        record { each = items_fit xs h.1.each within; apart = stays_apart pays_same (moved_item from to a) same_pays xs h.1.apart; within = within },
      )

module _ (from to : Dest) (asset a : ℕ) where
  alters : (o : AssetOutcome) (b : Bool) → (o.asset == asset) ≡ b → moved_asset from to asset a o ≡ cond b (record o { shape = moved_shape from to a o.shape }) o
  alters o b e = ap (λ (t : Bool). cond t (record o { shape = moved_shape from to a o.shape }) o) e

  keeps_asset : (o : AssetOutcome) → (moved_asset from to asset a o).asset ≡ o.asset
  keeps_asset o = go (o.asset == asset)
    where
      go : (b : Bool) → (cond b (record o { shape = moved_shape from to a o.shape }) o).asset ≡ o.asset
      go true = refl
      go false = refl

  same_order : (o p : AssetOutcome) → is_unordered (moved_asset from to asset a o) (moved_asset from to asset a p) ≡ is_unordered o p
  same_order o p = ap (λ n. nat_le (moved_asset from to asset a p).asset n) (keeps_asset o) ∙ ap (λ n. nat_le n o.asset) (keeps_asset p)

  others_stay : (o : AssetOutcome) (os : List AssetOutcome) → o.asset ≡ asset → list_any (is_unordered o) os ≡ false → moved from to asset a os ≡ os
  others_stay o [] e h = refl
  others_stay o (p ∷ ps) e h =
      let above : o.asset < p.asset = le-false p.asset o.asset (or_left (is_unordered o p) (list_any (is_unordered o) ps) h) in
      let apart : (p.asset == asset) ≡ false = eqb-false p.asset asset (λ (same : p.asset ≡ asset). omega arith) in
      ap (λ (x : AssetOutcome). x ∷ moved from to asset a ps) (alters p false apart)
      ∙ ap (λ (xs : List AssetOutcome). p ∷ xs) (others_stay o ps e (or_right (is_unordered o p) (list_any (is_unordered o) ps) h))

  asset_fits : (o : AssetOutcome) → IsAssetOutcome o → a ≤ amt (items_of (Some o.shape)) from → IsAssetOutcome (record o { shape = moved_shape from to a o.shape })
  asset_fits o h enough = (h.0, go o.shape h.1 enough)
    where
      go : (s : Shape) → IsShape s → a ≤ amt (items_of (Some s)) from → IsShape (moved_shape from to a s)
      go (Allocation items) h enough = shape_fits from to a items h enough
      go (Guarantee target list) h enough = h

  each_fits : (os : List AssetOutcome) → AllByRecursion IsAssetOutcome os → AreApart is_unordered os → a ≤ amt (items_in asset os) from → AllByRecursion IsAssetOutcome (moved from to asset a os)
  each_fits [] h rising enough = tt
  each_fits (o ∷ os) h rising enough = go (o.asset == asset) refl (each_fits os h.1 rising.1)
    where
      go : (b : Bool) → (o.asset == asset) ≡ b → (a ≤ amt (items_in asset os) from → AllByRecursion IsAssetOutcome (moved from to asset a os)) → AllByRecursion IsAssetOutcome (moved from to asset a (o ∷ os))
      go true e rest = (
        subst IsAssetOutcome (sym (alters o true e)) (asset_fits o h.0 (subst (λ (b : Bool). a ≤ amt (items_of (cond b (Some o.shape) (shape_in os asset))) from) e enough)),
        subst (AllByRecursion IsAssetOutcome) (sym (others_stay o os (eqb-true o.asset asset e) rising.0)) h.1,
      )
      go false e rest = (
        subst IsAssetOutcome (sym (alters o false e)) h.0,
        rest (subst (λ (b : Bool). a ≤ amt (items_of (cond b (Some o.shape) (shape_in os asset))) from) e enough),
      )

  pub moved_is_outcome : (os : List AssetOutcome) → IsOutcome os → a ≤ amt (items_in asset os) from → IsOutcome (moved from to asset a os)
  moved_is_outcome os h enough = (
    subst (λ n. n ≤ 4) (sym (length-map os (moved_asset from to asset a))) h.0,
    record { each = each_fits os h.1.each h.1.rising enough; rising = stays_apart is_unordered (moved_asset from to asset a) same_order os h.1.rising },
  )

-- ---- what is made fails only when memory runs out

pub first_within : (x : Item) (xs : List Item) → total (x ∷ xs) < 2 ^ 64 → x.amount < 2 ^ 64
first_within x xs h = let more : total (x ∷ xs) ≡ x.amount + total xs = sum_by-cons (λ (item : Item). item.amount) x xs in omega arith

pub others_within : (x : Item) (xs : List Item) → total (x ∷ xs) < 2 ^ 64 → total xs < 2 ^ 64
others_within x xs h = let more : total (x ∷ xs) ≡ x.amount + total xs = sum_by-cons (λ (item : Item). item.amount) x xs in omega arith

total_within : (s : Shape) → IsShape s → total_of s < 2 ^ 64
total_within (Allocation items) h = h.1.within
total_within (Guarantee target list) h = omega arith

each_within : (os : List AssetOutcome) → AllByRecursion IsAssetOutcome os → AreWithin os
each_within [] h = tt
each_within (o ∷ os) h = (total_within o.shape h.0.1, each_within os h.1)

pub assets_are_within : (p : Payment) (os : List AssetOutcome) → IsOutcome os → p.amount ≤ amt (items_in p.asset os) p.from → AreWithin (moved p.from p.to p.asset p.amount os)
assets_are_within p os h enough = each_within (moved p.from p.to p.asset p.amount os) (moved_is_outcome p.from p.to p.asset p.amount os h enough).1.each

pub outcome_is_made : (p : Payment) (os assets : List AssetOutcome) (fault : ByteFault) → IsOutcome os → assets ≡ moved p.from p.to p.asset p.amount os → (IsOutcome assets → Fails fault (Ok assets))
    → p.amount ≤ amt (items_in p.asset os) p.from → fault ≡ NoMemory
outcome_is_made p os assets fault h same only enough =
    fault_of_memory {X = List AssetOutcome} (λ (o : List AssetOutcome). o) (Err fault) assets (only (subst IsOutcome (sym same) (moved_is_outcome p.from p.to p.asset p.amount os h enough)))

pub state_is_made : (p : Payment) (os ends : List AssetOutcome) (bytes : List ℕ) (turn : ℕ) (made : Result StateParts ByteFault) → IsOutcome os → ends ≡ moved p.from p.to p.asset p.amount os → bytes ≡ []
    → (IsState (state_with turn false ends bytes) → Gives (λ s. s) made (Ok (state_with turn false ends bytes)))
    → turn < 2 ^ 48 → p.amount ≤ amt (items_in p.asset os) p.from → IfErr made (λ fault. fault ≡ NoMemory)
state_is_made p os ends bytes turn made h same none only small enough =
    fault_of_memory (λ (s : StateParts). s) made (state_with turn false ends bytes) (only (subst (λ (d : List ℕ). IsState (state_with turn false ends d)) (sym none) state))
  where
    state : IsState (state_with turn false ends [])
    state = record {
      turn = small;
      outcome = subst IsOutcome (sym same) (moved_is_outcome p.from p.to p.asset p.amount os h enough);
      few = omega arith;
      bytes = λ i. omega arith;
    }
