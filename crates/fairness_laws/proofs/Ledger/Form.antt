-- The form of what a virtual ledger can end with: its items are its two people's and its children's, and total what
-- it opened with.
use Rattle.std.proofs.Common.{◌≡◌, ℕ, ◌+◌, ◌-◌, ◌^◌, ◌≤◌, Bool, true, false, cond, ◌||◌, List, [], ◌∷◌, ◌⊎◌, inl, inr, refl, sym, ◌∙◌, ap, subst, arith}
use Rattle.std.proofs.lemmas.Bool.{eq-eqb}
use Rattle.std.specs.Prelude.{◌==◌, Option, Some, None}
use Rattle.std.specs.Str.{bytes_eq}
use Rattle.channel_values.specs.Outcomes.{is_same, total, IsOutcome}
use Rattle.channel_values.specs.Parts.{StateParts}
use Rattle.channel_values.specs.declared.value.AssetOutcome.{AssetOutcome}
use Rattle.channel_values.specs.declared.value.Dest.{Dest}
use Rattle.channel_values.specs.declared.value.Dest.TheVariants.{Person, Channel}
use Rattle.channel_values.specs.declared.value.Item.{Item}
use Rattle.channel_values.specs.declared.value.Shape.TheVariants.{Allocation}
use Rattle.channel_safety.proofs.Tests.{some-eq, clash, eqb-true, cond-true, cond-false}
use Rattle.call_history.proofs.Names.{same_bytes, bytes_eq_self}
use Rattle.channel_values.specs.Amounts.{amt, has}
use Rattle.funding_plans.specs.Shapes.{items_of, items_in}
use Rattle.funding_plans.specs.declared.plan.Part.{Part}
use Rattle.channel_safety.specs.Journals.{In}
use Rattle.funding_plans.specs.Outcomes.{names, items_up, items_down, changed_items, changed, up as go_up, down as go_down}
use Rattle.funding_plans.specs.declared.child.Child.{Child}
use Rattle.share_laws.proofs.Amounts.{total-cons}
use Rattle.share_laws.specs.Places.{outcomes_of}
use Rattle.fairness_laws.proofs.Ledger.Items.{people-up, people-down}
use Rattle.fairness_laws.proofs.Ledger.Moving.{up_is_up, down_is_up_before}
use Rattle.fairness_laws.proofs.Outcomes.{only}
use Rattle.fairness_laws.proofs.Truths.{either}
use Rattle.fairness_laws.specs.LedgerKeeping.{Lends, LedgerKeeps, AllKeep, Backs, Follows, stays, settles, proposes, Moves, repeats}
use Rattle.fairness_laws.specs.LedgerKeeping as keeping
use Rattle.fairness_laws.specs.LedgerLending.{Lent}
use Rattle.fairness_laws.specs.LedgerMoving.{Afford, IsUp}
use Rattle.fairness_laws.specs.LedgerPlaces.{Step, drifts, opens, closes, moves, starts}

-- ---- two people, and channels

abbrev of-two : (d e : List ℕ) → ℕ → ℕ → List Item → List Item
of-two d e a b rest = record { to = Person d; amount = a } ∷ record { to = Person e; amount = b } ∷ rest

abbrev in-asset : ℕ → List Item → List AssetOutcome
in-asset asset xs = record { asset = asset; shape = Allocation xs } ∷ []

pub record IsOfTwo (d e : List ℕ) (asset all : ℕ) (o : List AssetOutcome) : Type 0 where
  pub a : ℕ
  pub b : ℕ
  pub rest : List Item
  pub is : o ≡ record { asset = asset; shape = Allocation (record { to = Person d; amount = a } ∷ record { to = Person e; amount = b } ∷ rest) } ∷ []
  pub others : (p : List ℕ) → has rest (Person p) ≡ false
  pub whole : a + (b + total rest) ≡ all

-- with nothing set aside
pub record IsBareOfTwo (d e : List ℕ) (asset all : ℕ) (o : List AssetOutcome) : Type 0 where
  pub a : ℕ
  pub b : ℕ
  pub is : o ≡ record { asset = asset; shape = Allocation (record { to = Person d; amount = a } ∷ record { to = Person e; amount = b } ∷ []) } ∷ []
  pub sum : a + b ≡ all

items-there : (asset : ℕ) (o : List AssetOutcome) (xs : List Item) → o ≡ in-asset asset xs → items_in asset o ≡ xs
items-there asset o xs e = ap (items_in asset) e ∙ ap (λ (t : Bool). items_of (cond t (Some (Allocation xs)) None)) (eq-eqb asset asset refl)

total-two : (x y : Item) (rest : List Item) → total (x ∷ y ∷ rest) ≡ x.amount + (y.amount + total rest)
total-two x y rest = total-cons x (y ∷ rest) ∙ ap (λ (n : ℕ). x.amount + n) (total-cons y rest)

plus-none : (a b all : ℕ) → a + (b + total []) ≡ all → a + b ≡ all
plus-none a b all e = go (total []) refl e
  where
    go : (n : ℕ) → n ≡ 0 → a + (b + n) ≡ all → a + b ≡ all
    go n z e = omega arith

or-yes : (s t : Bool) → s ≡ true → (s || t) ≡ true
or-yes true t e = refl
or-yes false t e = absurd (clash false e refl)

no-rest : (rest : List Item) → ((p : List ℕ) → has rest (Person p) ≡ false) → ((x : List ℕ) → has rest (Channel x) ≡ false) → rest ≡ []
no-rest [] people channels = refl
no-rest (i ∷ more) people channels = absurd (by i.to refl)
  where
    by : (t : Dest) → i.to ≡ t → ⊥
    by (Person n) e =
        clash (has (i ∷ more) (Person n)) (subst (λ (u : Dest). (is_same u (Person n) || has more (Person n)) ≡ true) (sym e) (or-yes (is_same (Person n) (Person n)) (has more (Person n)) (bytes_eq_self n))) (people n)
    by (Channel n) e =
        clash (has (i ∷ more) (Channel n)) (subst (λ (u : Dest). (is_same u (Channel n) || has more (Channel n)) ≡ true) (sym e) (or-yes (is_same (Channel n) (Channel n)) (has more (Channel n)) (bytes_eq_self n)))
        (channels n)

module _ (d e : List ℕ) (asset all : ℕ) (o : List AssetOutcome) (w : IsOfTwo d e asset all o) where
  abbrev mine : List Item
  mine = of-two d e w.a w.b w.rest

  items-are : items_in asset o ≡ mine
  items-are = items-there asset o mine w.is

  -- it has items of that asset alone
  pub asset-is : (n : ℕ) (to : Dest) → has (items_in n o) to ≡ true → asset ≡ n
  asset-is n to h = go (asset == n) refl (subst (λ (os : List AssetOutcome). has (items_in n os) to ≡ true) w.is h)
    where
      go : (t : Bool) → (asset == n) ≡ t → has (items_of (cond t (Some (Allocation mine)) None)) to ≡ true → asset ≡ n
      go true same h = eqb-true asset n same
      go false same h = absurd (clash false h refl)

  -- where it names no channel it is the two people's
  pub bare-form : ((x : List ℕ) → has (items_in asset o) (Channel x) ≡ false) → IsBareOfTwo d e asset all o
  bare-form none = record {
    a = w.a;
    b = w.b;
    is = w.is ∙ ap (λ (xs : List Item). in-asset asset (of-two d e w.a w.b xs)) nothing;
    sum = plus-none w.a w.b all (ap (λ (xs : List Item). w.a + (w.b + total xs)) (sym nothing) ∙ w.whole);
  }
    where
      nothing : w.rest ≡ []
      nothing = no-rest w.rest w.others (λ x. subst (λ (xs : List Item). has xs (Channel x) ≡ false) items-are (none x))

  -- ---- what goes up and down

  rebuilt : (p : List AssetOutcome) (a b : ℕ) (rest : List Item) → p ≡ in-asset asset (of-two d e a b rest) → ((n : List ℕ) → has rest (Person n) ≡ false)
      → total (items_in asset p) ≡ total (items_in asset o) → IsOfTwo d e asset all p
  rebuilt p a b rest is people same = record {
    a = a;
    b = b;
    rest = rest;
    is = is;
    others = people;
    whole = sym (total-two (record { to = Person d; amount = a }) (record { to = Person e; amount = b }) rest)
        ∙ (ap total (sym (items-there asset p (of-two d e a b rest) is)) ∙ (same ∙ (ap total items-are
        ∙ (total-two (record { to = Person d; amount = w.a }) (record { to = Person e; amount = w.b }) w.rest ∙ w.whole))));
  }

  module _ (k : Child) (same : k.asset ≡ asset) where
    changed-is : (rises : Bool) → changed rises k o ≡ in-asset asset (changed_items rises k mine)
    changed-is rises =
        ap (changed rises k) w.is
        ∙ (ap (λ (t : Bool). cond t (record { asset = k.asset; shape = Allocation (changed_items rises k (items_of (cond t (Some (Allocation mine)) None))) }) (record { asset = asset; shape = Allocation mine }) ∷ [])
        (eq-eqb asset k.asset (sym same))
        ∙ ap (λ (n : ℕ). in-asset n (changed_items rises k mine)) same)

    totals : (p : List AssetOutcome) → total (items_in k.asset p) ≡ total (items_in k.asset o) → total (items_in asset p) ≡ total (items_in asset o)
    totals p = subst (λ (n : ℕ). total (items_in n p) ≡ total (items_in n o)) same

    form-changed : (rises : Bool) → total (items_in k.asset (changed rises k o)) ≡ total (items_in k.asset o) → IsOfTwo d e asset all (changed rises k o)
    form-changed true t =
        rebuilt (changed true k o) _ _ (items_up k w.rest) (changed-is true) (λ n. people-up k n w.rest ∙ w.others n) (totals (changed true k o) t)
    form-changed false t =
        rebuilt (changed false k o) _ _ (items_down k w.rest) (changed-is false) (λ n. people-down k n w.rest ∙ w.others n) (totals (changed false k o) t)

-- ---- a ledger moves

module _ (d e : List ℕ) (asset all : ℕ) where
  abbrev pub Of : List AssetOutcome → Type 0
  Of o = IsOfTwo d e asset all o

  -- whatever it can end with
  abbrev pub Form : Option StateParts → Type 0
  Form own = (last : StateParts) → own ≡ Some last → (o : List AssetOutcome) → In o (outcomes_of last) → IsOfTwo d e asset all o

  follows-form : (now target : List AssetOutcome) (state : StateParts) → Follows now target state → Of now → Of target → (o : List AssetOutcome) → In o (outcomes_of state) → Of o
  follows-form now target state (stays same alone) was then o i = subst Of (sym (only state state.outcome alone o i ∙ same)) was
  follows-form now target state (settles same alone) was then o i = subst Of (sym (only state state.outcome alone o i ∙ same)) then
  follows-form now target state (proposes same each differ) was then o i = by (each o i)
    where
      by : (o ≡ now) ⊎ (o ≡ target) → Of o
      by (inl at) = subst Of (sym at) was
      by (inr at) = subst Of (sym at) then

  module _ (k : Lent) (last : StateParts) (now : List AssetOutcome) (valid : IsOutcome now) (backs : Backs k last now) (differ : bytes_eq k.child.first k.child.second ≡ false) (was : Of now) where
    assets : k.child.asset ≡ asset
    assets = sym (asset-is d e asset all now was k.child.asset (Person k.child.first) backs.one)

    up-form : k.closing ≡ false → k.is_up ≡ false → k.child.a + k.child.b ≤ 2 ^ 64 - 1 → Of (go_up k.child now)
    up-form running early small = go (names k.child now) refl
      where
        go : (t : Bool) → names k.child now ≡ t → Of (go_up k.child now)
        go true named = subst Of (sym (cond-true (names k.child now) now (changed true k.child now) named)) was
        go false none =
            subst Of (sym (cond-false (names k.child now) now (changed true k.child now) none))
            (form-changed d e asset all now was k.child assets true
            (subst (λ (z : List AssetOutcome). total (items_in k.child.asset z) ≡ total (items_in k.child.asset now)) (cond-false (names k.child now) now (changed true k.child now) none) rises.one.whole))
          where
            afford : Afford k.child now
            afford = by (backs.room running early)
              where
                by : (names k.child now ≡ true) ⊎ ((k.child.a ≤ amt (items_in k.child.asset now) (Person k.child.first)) × (k.child.b ≤ amt (items_in k.child.asset now) (Person k.child.second))) → Afford k.child now
                by (inl named) = absurd (clash (names k.child now) named none)
                by (inr have) = record { one = have.0; other = have.1 }

            rises : IsUp k.child now (go_up k.child now)
            rises = up_is_up k.child now valid differ small none (record { one = backs.one; other = backs.other }) afford

    down-form : (a b : ℕ) → a + b ≡ k.child.a + k.child.b → Of (go_down (record k.child { a = a; b = b }) now)
    down-form a b sum = go (names k.child now) refl
      where
        c : Child
        c = record k.child { a = a; b = b }

        go : (t : Bool) → names k.child now ≡ t → Of (go_down (record k.child { a = a; b = b }) now)
        go false none = subst Of (sym (cond-false (names k.child now) (changed false (record k.child { a = a; b = b }) now) now none)) was
        go true named =
            subst Of (sym (cond-true (names k.child now) (changed false (record k.child { a = a; b = b }) now) now named))
            (form-changed d e asset all now was (record k.child { a = a; b = b }) assets false
            (subst (λ (z : List AssetOutcome). total (items_in k.child.asset z) ≡ total (items_in k.child.asset now))
            (cond-true (names k.child now) (changed false (record k.child { a = a; b = b }) now) now named) (sym falls.one.whole)))
          where
            falls : IsUp (record k.child { a = a; b = b }) (go_down (record k.child { a = a; b = b }) now) now
            falls =
                down_is_up_before (record k.child { a = a; b = b }) now valid differ named (backs.amount named ∙ sym sum) (record { one = backs.one; other = backs.other })

  moved-form : (parts : List Part) (lends : Lends) (l : List ℕ) (last state : StateParts) (now : List AssetOutcome) → LedgerKeeps parts lends l last → In now (outcomes_of last) → IsOutcome now
      → Moves parts lends l now state → Of now → (o : List AssetOutcome) → In o (outcomes_of state) → Of o
  moved-form parts lends l last state now keeps could valid (repeats same alone) was o i = subst Of (sym (only state state.outcome alone o i ∙ same)) was
  moved-form parts lends l last state now keeps could valid (keeping.up p k j at running early differ small follows) was o i =
      follows-form now (go_up k.child now) state follows was (up-form k last now valid (keeps.backs p k now j at could) differ was running early small) o i
  moved-form parts lends l last state now keeps could valid (keeping.down p k a b j at closing falls differ sum follows) was o i =
      follows-form now (go_down (record k.child { a = a; b = b }) now) state follows was (down-form k last now valid (keeps.backs p k now j at could) differ was a b sum) o i

  -- ---- a step

  pub step-form : (parts : List Part) (lends : Lends) (own : List ℕ → Option StateParts) (new : List Part) (later : Lends) (next : List ℕ → Option StateParts) → AllKeep parts lends own
      → Step parts lends own new later next → (l : List ℕ) → (own l ≡ None → (state : StateParts) → next l ≡ Some state → Of state.outcome) → Form (own l) → Form (next l)
  step-form parts lends own new later next keeps (drifts same drift own-same) l first was last at x i = was last (sym (own-same l) ∙ at) x i
  step-form parts lends own new later next keeps (opens p more drift o own-same) l first was last at x i = was last (sym (own-same l) ∙ at) x i
  step-form parts lends own new later next keeps (closes p same c own-same) l first was last at x i = was last (sym (own-same l) ∙ at) x i
  step-form parts lends own new later next keeps (moves m before state now same drift signed could valid apart moved after rest) l first was last at o i = by (either (bytes_eq l m))
    where
      by : (bytes_eq l m ≡ true) ⊎ (bytes_eq l m ≡ false) → Of o
      by (inl here) =
          let it : l ≡ m = same_bytes l m here in
          let new-is : last ≡ state = some-eq last state (sym (subst (λ (z : List ℕ). next z ≡ Some last) it at) ∙ after) in
          moved-form parts lends m before state now (keeps.ledgers m before signed) could valid moved
          (was before (subst (λ (z : List ℕ). own z ≡ Some before) (sym it) signed) now could) o (subst (λ (z : StateParts). In o (outcomes_of z)) new-is i)
      by (inr differ) = was last (sym (rest l differ) ∙ at) o i
  step-form parts lends own new later next keeps (starts m state same drift none alone bare unsigned after rest) l first was last at o i = by (either (bytes_eq l m))
    where
      by : (bytes_eq l m ≡ true) ⊎ (bytes_eq l m ≡ false) → Of o
      by (inl here) =
          let it : l ≡ m = same_bytes l m here in
          let then : next l ≡ Some state = subst (λ (z : List ℕ). next z ≡ Some state) (sym it) after in
          let new-is : last ≡ state = some-eq last state (sym at ∙ then) in
          subst Of (sym (only state state.outcome alone o (subst (λ (z : StateParts). In o (outcomes_of z)) new-is i)))
          (first (subst (λ (z : List ℕ). own z ≡ None) (sym it) unsigned) state then)
      by (inr differ) = was last (sym (rest l differ) ∙ at) o i
