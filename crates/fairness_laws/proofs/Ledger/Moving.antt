-- What going up and going down make of an outcome.
use Rattle.std.proofs.Common.{◌≡◌, ◌≢◌, ℕ, ◌+◌, ◌-◌, ◌^◌, ◌<◌, ◌≤◌, Bool, true, false, cond, List, [], ◌∷◌, refl, sym, ◌∙◌, ap, subst, arith}
use Rattle.std.specs.Prelude.{◌==◌, Option, Some, None}
use Rattle.std.specs.List.{AllByRecursion}
use Rattle.channel_values.specs.Outcomes.{pays_same, AreApart, IsItem, FitsShape, FitsAsset, IsShape, IsAssetOutcome, IsOutcome}
use Rattle.channel_values.specs.declared.value.AssetOutcome.{AssetOutcome}
use Rattle.channel_values.specs.declared.value.Dest.{Dest}
use Rattle.channel_values.specs.declared.value.Dest.TheVariants.{Person}
use Rattle.channel_values.specs.declared.value.Item.{Item}
use Rattle.channel_values.specs.declared.value.Shape.{Shape}
use Rattle.channel_values.specs.declared.value.Shape.TheVariants.{Allocation, Guarantee}
use Rattle.channel_safety.proofs.Tests.{clash, eqb-true, cond-true, cond-false}
use Rattle.call_history.specs.Dues.{shape_in}
use Rattle.channel_values.specs.Amounts.{has}
use Rattle.funding_plans.specs.Shapes.{items_of, list_of, items_in, list_in}
use Rattle.funding_plans.proofs.Kept.{items_are_within}
use Rattle.funding_plans.specs.Limits.{is_valid}
use Rattle.funding_plans.specs.Outcomes.{names, with_items, with_items_at, items_up, items_down, changed}
use Rattle.share_laws.proofs.Fits.{set_aside_fits, taken_back_fits}
use Rattle.share_laws.specs.Moves.{SetsAside}
use Rattle.fairness_laws.proofs.OneByOne.{up_is}
use Rattle.share_laws.specs.Items.{set_aside, taken_back}
use Rattle.std.proofs.lemmas.Bool.{eq-eqb}
use Rattle.fairness_laws.specs.LedgerMoving.{IsUp, UpIsUp, DownIsUpBefore, UpIsOutcome, DownIsOutcome}
use Rattle.fairness_laws.proofs.Ledger.Spelled.{read-is}
use Rattle.fairness_laws.proofs.Ledger.Items.{people-up, people-down, down-takes-back, up-fits, down-fits}

-- ---- other items for an asset

module _ (asset : ℕ) (xs : List Item) where
  with-there : (s : Shape) (os : List AssetOutcome) → shape_in os asset ≡ Some s → shape_in (with_items asset xs os) asset ≡ Some (Allocation xs)
  with-there s [] e = absurd cc
  with-there s (o ∷ os) e = go (o.asset == asset) refl e (with-there s os)
    where
      go : (b : Bool) → (o.asset == asset) ≡ b → cond b (Some o.shape) (shape_in os asset) ≡ Some s → (shape_in os asset ≡ Some s → shape_in (with_items asset xs os) asset ≡ Some (Allocation xs))
          → shape_in (with_items_at asset xs o ∷ with_items asset xs os) asset ≡ Some (Allocation xs)
      go true is e ih = rw is (rw (eq-eqb asset asset refl) refl)
      go false is e ih = rw is (rw is (ih e))

  with-other : (a : ℕ) → a ≢ asset → (os : List AssetOutcome) → shape_in (with_items asset xs os) a ≡ shape_in os a
  with-other a other [] = refl
  with-other a other (o ∷ os) = go (o.asset == asset) refl (o.asset == a) refl (with-other a other os)
    where
      none : (b : Bool) → (asset == a) ≡ b → b ≡ false
      none true e = absurd (other (sym (eqb-true asset a e)))
      none false e = refl

      go : (b : Bool) → (o.asset == asset) ≡ b → (c : Bool) → (o.asset == a) ≡ c → shape_in (with_items asset xs os) a ≡ shape_in os a
          → shape_in (with_items_at asset xs o ∷ with_items asset xs os) a ≡ cond (o.asset == a) (Some o.shape) (shape_in os a)
      go true e true g ih = absurd (other (sym (eqb-true o.asset a g) ∙ eqb-true o.asset asset e))
      go true e false g ih = rw e (rw g (rw (none (asset == a) refl) ih))
      go false e true g ih = rw e (rw g refl)
      go false e false g ih = rw e (rw g ih)

-- somebody's items are an allocation
allocated : (o : Option Shape) (d : Dest) → has (items_of o) d ≡ true → o ≡ Some (Allocation (items_of o))
allocated None d h = absurd (clash false h refl)
allocated (Some (Allocation items)) d h = refl
allocated (Some (Guarantee target list)) d h = absurd (clash false h refl)

-- the items of an asset of an outcome
pub record Itemed (xs : List Item) : Type 0 where
  pub apart : AreApart pays_same xs
  pub each : AllByRecursion IsItem xs

shape-items : (shape : Shape) → IsShape shape → Itemed (items_of (Some shape))
shape-items (Allocation items) h = record { apart = h.1.apart; each = h.1.each }
shape-items (Guarantee target list) h = record { apart = tt; each = tt }

pub itemed : (os : List AssetOutcome) (asset : ℕ) → AllByRecursion IsAssetOutcome os → Itemed (items_in asset os)
itemed [] asset all = record { apart = tt; each = tt }
itemed (o ∷ os) asset all = go (o.asset == asset) (itemed os asset all.1)
  where
    go : (b : Bool) → Itemed (items_in asset os) → Itemed (items_of (cond b (Some o.shape) (shape_in os asset)))
    go true h = shape-items o.shape all.0.1
    go false h = h

-- what changes where the asset has an allocation
record With (asset : ℕ) (xs : List Item) (from to : List AssetOutcome) : Type 0 where
  items : items_in asset to ≡ xs
  list : list_in asset to ≡ list_in asset from
  others : (a : ℕ) → a ≢ asset → shape_in to a ≡ shape_in from a

with-items : (asset : ℕ) (xs : List Item) (os : List AssetOutcome) (d : Dest) → has (items_in asset os) d ≡ true → With asset xs os (with_items asset xs os)
with-items asset xs os d h =
    let was = allocated (shape_in os asset) d h in
    let now = with-there asset xs (Allocation (items_in asset os)) os was in
    record { items = ap items_of now; list = ap list_of now ∙ sym (ap list_of was); others = λ a other. with-other asset xs a other os }

-- ---- up and down

pub up_is_up : UpIsUp
up_is_up k o valid differ small unnamed there afford =
    subst (IsUp k o) (sym (cond-false (names k o) o (changed true k o) unnamed)) (record {
      one = subst (SetsAside k.first k.name k.a (k.a + k.b) xs) (sym to) fits.0;
      other = subst (SetsAside k.second k.name k.b (k.a + k.b) xs) (sym to) fits.1;
      people = λ p. ap (λ (ys : List Item). has ys (Person p)) w.items ∙ people-up k p xs;
      list = w.list;
      others = w.others;
    })
  where
    xs : List Item
    xs = items_in k.asset o

    w : With k.asset (items_up k xs) o (changed true k o)
    w = with-items k.asset (items_up k xs) o (Person k.first) there.one

    less : (n : ℕ) → n ≤ 2 ^ 64 - 1 → n < 2 ^ 64
    less n p = omega arith

    to : items_in k.asset (changed true k o) ≡ set_aside k.first k.second k.name k.a k.b xs
    to = w.items ∙ up_is k xs (itemed o k.asset valid.1.each).apart differ (less (k.a + k.b) small)

    fits : SetsAside k.first k.name k.a (k.a + k.b) xs (set_aside k.first k.second k.name k.a k.b xs) × SetsAside k.second k.name k.b (k.a + k.b) xs (set_aside k.first k.second k.name k.a k.b xs)
    fits = set_aside_fits k.first k.second k.name k.a k.b xs differ unnamed afford.one afford.other

pub down_is_up_before : DownIsUpBefore
down_is_up_before k o valid differ named amount there =
    subst (λ (p : List AssetOutcome). IsUp k p o) (sym (cond-true (names k o) (changed false k o) o named)) (record {
      one = subst (λ (ys : List Item). SetsAside k.first k.name k.a (k.a + k.b) ys xs) (sym to) fits.0;
      other = subst (λ (ys : List Item). SetsAside k.second k.name k.b (k.a + k.b) ys xs) (sym to) fits.1;
      people = λ p. sym (ap (λ (ys : List Item). has ys (Person p)) w.items ∙ people-down k p xs);
      list = sym w.list;
      others = λ a other. sym (w.others a other);
    })
  where
    xs : List Item
    xs = items_in k.asset o

    w : With k.asset (items_down k xs) o (changed false k o)
    w = with-items k.asset (items_down k xs) o (Person k.first) there.one

    to : items_in k.asset (changed false k o) ≡ taken_back k.first k.second k.name k.a k.b xs
    to = w.items ∙ down-takes-back k xs (itemed o k.asset valid.1.each).apart differ amount (items_are_within k.asset o valid)

    fits : SetsAside k.first k.name k.a (k.a + k.b) (taken_back k.first k.second k.name k.a k.b xs) xs × SetsAside k.second k.name k.b (k.a + k.b) (taken_back k.first k.second k.name k.a k.b xs) xs
    fits = taken_back_fits k.first k.second k.name k.a k.b xs differ (itemed o k.asset valid.1.each).apart named amount there.one there.other

-- ---- outcomes

shape-fits : (s : Shape) → IsShape s → FitsShape s
shape-fits (Allocation items) h = h.1.each
shape-fits (Guarantee target dests) h = (h.0, h.2.each)

fits-with : (asset : ℕ) (xs : List Item) → AllByRecursion IsItem xs → (os : List AssetOutcome) → AllByRecursion IsAssetOutcome os → AllByRecursion FitsAsset (with_items asset xs os)
fits-with asset xs each [] all = tt
fits-with asset xs each (o ∷ os) all = (go (o.asset == asset) refl, fits-with asset xs each os all.1)
  where
    go : (b : Bool) → (o.asset == asset) ≡ b → FitsAsset (cond b (record { asset = asset; shape = Allocation xs }) o)
    go true e = (subst (λ (n : ℕ). n < 2 ^ 32) (eqb-true o.asset asset e) all.0.0, each)
    go false e = (all.0.0, shape-fits o.shape all.0.1)

pub up_is_outcome : UpIsOutcome
up_is_outcome k o is named valid = go (names k o) refl
  where
    go : (b : Bool) → names k o ≡ b → IsOutcome (cond b o (changed true k o))
    go true e = is
    go false e =
        read-is (changed true k o) (fits-with k.asset (items_up k (items_in k.asset o)) (up-fits k (items_in k.asset o) named (itemed o k.asset is.1.each).each) o is.1.each)
        (sym (ap is_valid (cond-false (names k o) o (changed true k o) e)) ∙ valid)

pub down_is_outcome : DownIsOutcome
down_is_outcome k o is valid = go (names k o) refl
  where
    go : (b : Bool) → names k o ≡ b → IsOutcome (cond b (changed false k o) o)
    go true e =
        read-is (changed false k o) (fits-with k.asset (items_down k (items_in k.asset o)) (down-fits k (items_in k.asset o) (itemed o k.asset is.1.each).each) o is.1.each)
        (sym (ap is_valid (cond-true (names k o) (changed false k o) o e)) ∙ valid)
    go false e = is
