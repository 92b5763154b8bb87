-- A payment lowers the payer's item and raises the payee's, of one asset.
use Rattle.std.proofs.Common.{◌≡◌, ◌≢◌, ℕ, ◌+◌, ◌-◌, ◌≤◌, ◌==◌, Bool, true, false, cond, ◌||◌, List, [], ◌∷◌, map, length, refl, sym, ◌∙◌, ap, subst, arith}
use Rattle.std.specs.Prelude.{Option, Some, None}
use Rattle.std.specs.List.{AllByRecursion}
use Rattle.std.specs.Option.{option_map}
use Rattle.std.specs.Str.{bytes_eq}
use Rattle.channel_values.specs.Outcomes.{is_same, pays_same, AreApart, IsItem}
use Rattle.channel_values.specs.Parts.{StateParts}
use Rattle.channel_values.specs.declared.value.AssetOutcome.{AssetOutcome}
use Rattle.channel_values.specs.declared.value.Dest.{Dest}
use Rattle.channel_values.specs.declared.value.Dest.TheVariants.{Person}
use Rattle.channel_values.specs.declared.value.Item.{Item}
use Rattle.channel_values.specs.declared.value.Shape.{Shape}
use Rattle.channel_values.specs.declared.value.Shape.TheVariants.{Allocation, Guarantee}
use Rattle.channel_values.specs.Digests.{name_of_person}
use Rattle.channel_safety.proofs.Tests.{clash, eqb-true}
use Rattle.call_history.proofs.Names.{same_bytes}
use Rattle.call_history.proofs.Payouts.{same_dest}
use Rattle.call_history.specs.Dues.{shape_in}
use Rattle.channel_values.specs.Amounts.{has}
use Rattle.funding_plans.specs.Shapes.{items_of, list_of, items_in}
use Rattle.channel_node.specs.Refusing.{moved_item, moved_shape, moved_asset, moved}
use Rattle.share_laws.specs.Fairly.{Pays}
use Rattle.share_laws.specs.Items.{pays, lowered, raised}
use Rattle.share_laws.specs.Wanted.{paid_over}
use Rattle.support_rules.specs.Real.{real}
use Rattle.fairness_laws.proofs.OneByOne.{or_false, no_other}
use Rattle.fairness_laws.proofs.Ledger.Moving.{Itemed, itemed}
use Rattle.fairness_laws.specs.SeatLaws.{PaymentsAreFair}
use Rattle.fairness_laws.proofs.Seat.Sitting.{Topped, topped, bare}

-- ---- items

module _ (from to : Dest) (k : ℕ) where
  abbrev after : List Item → List Item
  after items = map (moved_item from to k) items

  -- nobody's
  stays : (xs : List Item) → has xs from ≡ false → has xs to ≡ false → after xs ≡ xs
  stays [] p q = refl
  stays (x ∷ xs) p q =
      let e = or_false (is_same x.to from) (has xs from) p in
      let g = or_false (is_same x.to to) (has xs to) q in
      rw e.0 (rw g.0 (ap (λ (ys : List Item). x ∷ ys) (stays xs e.1 g.1)))

  -- the payer's alone
  falls : (xs : List Item) → AreApart pays_same xs → has xs to ≡ false → after xs ≡ lowered from k xs
  falls [] apart q = refl
  falls (x ∷ xs) apart q = go (is_same x.to from) refl (falls xs apart.1 (or_false (is_same x.to to) (has xs to) q).1)
    where
      g : (is_same x.to to ≡ false) × (has xs to ≡ false)
      g = or_false (is_same x.to to) (has xs to) q

      go : (b : Bool) → is_same x.to from ≡ b → after xs ≡ lowered from k xs → after (x ∷ xs) ≡ lowered from k (x ∷ xs)
      go true e ih =
          let none : has xs from ≡ false = subst (λ (d : Dest). has xs d ≡ false) (same_dest x.to from e) (no_other x xs apart.0) in
          rw e (ap (λ (ys : List Item). pays x.to (x.amount - k) ∷ ys) (stays xs none g.1))
      go false e ih = rw e (rw g.0 (ap (λ (ys : List Item). x ∷ ys) ih))

  -- the payee's alone
  rises : (xs : List Item) → AreApart pays_same xs → has xs from ≡ false → after xs ≡ raised to k xs
  rises [] apart p = refl
  rises (x ∷ xs) apart p = go (is_same x.to to) refl (rises xs apart.1 (or_false (is_same x.to from) (has xs from) p).1)
    where
      g : (is_same x.to from ≡ false) × (has xs from ≡ false)
      g = or_false (is_same x.to from) (has xs from) p

      go : (b : Bool) → is_same x.to to ≡ b → after xs ≡ raised to k xs → after (x ∷ xs) ≡ raised to k (x ∷ xs)
      go true e ih =
          let none : has xs to ≡ false = subst (λ (d : Dest). has xs d ≡ false) (same_dest x.to to e) (no_other x xs apart.0) in
          rw g.0 (rw e (ap (λ (ys : List Item). pays x.to (x.amount + k) ∷ ys) (stays xs g.1 none)))
      go false e ih = rw g.0 (rw e (ap (λ (ys : List Item). x ∷ ys) ih))

  -- both
  pays-over : (xs : List Item) → AreApart pays_same xs → is_same from to ≡ false → after xs ≡ raised to k (lowered from k xs)
  pays-over [] apart differ = refl
  pays-over (x ∷ xs) apart differ = go (is_same x.to from) refl (is_same x.to to) refl (pays-over xs apart.1 differ)
    where
      go : (b : Bool) → is_same x.to from ≡ b → (c : Bool) → is_same x.to to ≡ c → after xs ≡ raised to k (lowered from k xs) → after (x ∷ xs) ≡ raised to k (lowered from k (x ∷ xs))
      go true e true g ih = absurd (clash (is_same from to) (subst (λ (d : Dest). is_same d to ≡ true) (same_dest x.to from e) g) differ)
      go true e false g ih =
          let none : has xs from ≡ false = subst (λ (d : Dest). has xs d ≡ false) (same_dest x.to from e) (no_other x xs apart.0) in
          rw e (rw g (ap (λ (ys : List Item). pays x.to (x.amount - k) ∷ ys) (rises xs apart.1 none)))
      go false e true g ih =
          let none : has xs to ≡ false = subst (λ (d : Dest). has xs d ≡ false) (same_dest x.to to g) (no_other x xs apart.0) in
          rw e (rw g (ap (λ (ys : List Item). pays x.to (x.amount + k) ∷ ys) (falls xs apart.1 none)))
      go false e false g ih = rw e (rw g (ap (λ (ys : List Item). x ∷ ys) ih))

unraised : (d : Dest) (k : ℕ) (xs : List Item) → has xs d ≡ false → raised d k xs ≡ xs
unraised d k [] h = refl
unraised d k (x ∷ xs) h =
    let e = or_false (is_same x.to d) (has xs d) h in
    rw e.0 (ap (λ (ys : List Item). x ∷ ys) (unraised d k xs e.1))

has-lowered : (d e : Dest) (k : ℕ) (xs : List Item) → has (lowered d k xs) e ≡ has xs e
has-lowered d e k [] = refl
has-lowered d e k (x ∷ xs) = go (is_same x.to d) (has-lowered d e k xs)
  where
    go : (b : Bool) → has (lowered d k xs) e ≡ has xs e → has (cond b (pays x.to (x.amount - k) ∷ xs) (x ∷ lowered d k xs)) e ≡ (is_same x.to e || has xs e)
    go true h = refl
    go false h = ap (λ (t : Bool). is_same x.to e || t) h

-- ---- one who isn't there

-- a name that is nobody's, and not this one
record Nobody (me : List ℕ) : Type 0 where
  name : List ℕ
  apart : bytes_eq me name ≡ false
  short : length name ≤ 1

nobody : (me : List ℕ) → Nobody me
nobody [] = record { name = 0 ∷ []; apart = refl; short = omega arith }
nobody (b ∷ bs) = record { name = []; apart = refl; short = omega arith }

short-none : (n : List ℕ) → length n ≤ 1 → (xs : List Item) → AllByRecursion IsItem xs → has xs (Person n) ≡ false
short-none n few [] all = refl
short-none n few (x ∷ xs) all = go (is_same x.to (Person n)) refl (short-none n few xs all.1)
  where
    long : (d : Dest) → d ≡ Person n → IsItem (record { to = d; amount = x.amount }) → ⊥
    long d e item =
        let l : length n ≡ 32 = (subst (λ (y : Dest). IsItem (record { to = y; amount = x.amount })) e item).0.0 in
        absurd (omega (arith, l, few))

    go : (b : Bool) → is_same x.to (Person n) ≡ b → has xs (Person n) ≡ false → (b || has xs (Person n)) ≡ false
    go true e h = absurd (long x.to (same_dest x.to (Person n) e) all.0)
    go false e h = h

-- what somebody pays, to another or to nobody else
record Payee (me other : List ℕ) (k : ℕ) : Type 0 where
  name : List ℕ
  apart : bytes_eq me name ≡ false
  moves : (xs : List Item) → AreApart pays_same xs → AllByRecursion IsItem xs → map (moved_item (Person me) (Person other) k) xs ≡ paid_over me name k xs

payee-of : (me other : List ℕ) (k : ℕ) → Payee me other k
payee-of me other k = go (bytes_eq me other) refl
  where
    own : me ≡ other → (xs : List Item) → AreApart pays_same xs → AllByRecursion IsItem xs
        → map (moved_item (Person me) (Person other) k) xs ≡ paid_over me (nobody me).name k xs
    own same xs apart all =
        subst (λ (o : List ℕ). map (moved_item (Person me) (Person o) k) xs ≡ lowered (Person me) k xs) same (alone xs apart)
        ∙ sym (unraised (Person (nobody me).name) k (lowered (Person me) k xs)
        (has-lowered (Person me) (Person (nobody me).name) k xs ∙ short-none (nobody me).name (nobody me).short xs all))
      where
        alone : (xs : List Item) → AreApart pays_same xs → map (moved_item (Person me) (Person me) k) xs ≡ lowered (Person me) k xs
        alone [] apart = refl
        alone (x ∷ xs) apart = test (is_same x.to (Person me)) refl (alone xs apart.1)
          where
            test : (b : Bool) → is_same x.to (Person me) ≡ b → map (moved_item (Person me) (Person me) k) xs ≡ lowered (Person me) k xs
                → map (moved_item (Person me) (Person me) k) (x ∷ xs) ≡ lowered (Person me) k (x ∷ xs)
            test true e ih =
                let none : has xs (Person me) ≡ false = subst (λ (d : Dest). has xs d ≡ false) (same_dest x.to (Person me) e) (no_other x xs apart.0) in
                rw e (ap (λ (ys : List Item). pays x.to (x.amount - k) ∷ ys) (stays (Person me) (Person me) k xs none none))
            test false e ih = rw e (ap (λ (ys : List Item). x ∷ ys) ih)

    go : (b : Bool) → bytes_eq me other ≡ b → Payee me other k
    go true e = record { name = (nobody me).name; apart = (nobody me).apart; moves = own (same_bytes me other e) }
    go false e = record { name = other; apart = e; moves = λ xs apart all. pays-over (Person me) (Person other) k xs apart e }

-- ---- outcomes

module _ (from to : Dest) (asset k : ℕ) where
  -- of the asset
  shape-there : (os : List AssetOutcome) → shape_in (moved from to asset k os) asset ≡ option_map (moved_shape from to k) (shape_in os asset)
  shape-there [] = refl
  shape-there (o ∷ os) = go (o.asset == asset) refl (shape-there os)
    where
      go : (b : Bool) → (o.asset == asset) ≡ b → shape_in (moved from to asset k os) asset ≡ option_map (moved_shape from to k) (shape_in os asset)
          → shape_in (moved_asset from to asset k o ∷ moved from to asset k os) asset ≡ option_map (moved_shape from to k) (cond (o.asset == asset) (Some o.shape) (shape_in os asset))
      go true e ih = rw e (rw e refl)
      go false e ih = rw e (rw e ih)

  -- of another
  shape-other : (a : ℕ) → a ≢ asset → (os : List AssetOutcome) → shape_in (moved from to asset k os) a ≡ shape_in os a
  shape-other a other [] = refl
  shape-other a other (o ∷ os) = go (o.asset == asset) refl (o.asset == a) refl (shape-other a other os)
    where
      go : (b : Bool) → (o.asset == asset) ≡ b → (c : Bool) → (o.asset == a) ≡ c → shape_in (moved from to asset k os) a ≡ shape_in os a
          → shape_in (moved_asset from to asset k o ∷ moved from to asset k os) a ≡ cond (o.asset == a) (Some o.shape) (shape_in os a)
      go true e true g ih = absurd (other (sym (eqb-true o.asset a g) ∙ eqb-true o.asset asset e))
      go true e false g ih = rw e (rw g ih)
      go false e true g ih = rw e (rw g refl)
      go false e false g ih = rw e (rw g ih)

  list-same : (o : Option Shape) → list_of (option_map (moved_shape from to k) o) ≡ list_of o
  list-same None = refl
  list-same (Some (Allocation items)) = refl
  list-same (Some (Guarantee target list)) = refl

  items-moved : (o : Option Shape) → items_of (option_map (moved_shape from to k) o) ≡ map (moved_item from to k) (items_of o)
  items-moved None = refl
  items-moved (Some (Allocation items)) = refl
  items-moved (Some (Guarantee target list)) = refl

pub payments_are_fair : PaymentsAreFair
payments_are_fair key orders past front f opening c sits off payee asset amount turn top state is made =
    subst (λ (s : StateParts). Pays real me orders past front f s asset amount) (sym made) (record {
      no_base = off;
      alone = bare turn false after;
      from = t.from;
      could = t.there;
      latest = top.outcome;
      improved = record { affords = t.stands.affords; lists = t.stands.list };
      payee = p.name;
      apart = p.apart;
      items =
          ap items_of (shape-there (Person me) (Person payee) asset amount top.outcome)
          ∙ items-moved (Person me) (Person payee) asset amount (shape_in top.outcome asset)
          ∙ p.moves (items_in asset top.outcome) i.apart i.each;
      list =
          ap list_of (shape-there (Person me) (Person payee) asset amount top.outcome)
          ∙ list-same (Person me) (Person payee) asset amount (shape_in top.outcome asset);
      others = λ a other. shape-other (Person me) (Person payee) asset amount a other top.outcome;
    })
  where
    me : List ℕ
    me = name_of_person key

    after : List AssetOutcome
    after = moved (Person me) (Person payee) asset amount top.outcome

    t : Topped key orders past front f opening c sits top
    t = topped key orders past front f opening c sits top is

    p : Payee me payee amount
    p = payee-of me payee amount

    i : Itemed (items_in asset top.outcome)
    i = itemed top.outcome asset t.state.outcome.1.each
