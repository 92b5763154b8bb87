-- What a ledger can end with, when it goes up or down for a part.
use Rattle.std.proofs.Common.{◌≡◌, ◌≢◌, ℕ, Bool, true, false, ◌⊎◌, inl, inr, List, [], ◌∷◌, refl, sym, ◌∙◌, ap, subst}
use Rattle.std.specs.Prelude.{◌==◌, Option, Some}
use Rattle.std.specs.Str.{bytes_eq}
use Rattle.channel_values.specs.Parts.{StateParts}
use Rattle.channel_values.specs.declared.value.AssetOutcome.{AssetOutcome}
use Rattle.channel_values.specs.declared.value.Dest.TheVariants.{Person, Channel}
use Rattle.channel_values.specs.declared.value.Shape.{Shape}
use Rattle.channel_safety.proofs.Tests.{some-eq, clash, eqb-true}
use Rattle.call_history.proofs.Names.{same_bytes, bytes_eq_self}
use Rattle.channel_values.specs.Amounts.{amt, has}
use Rattle.funding_plans.specs.Shapes.{items_of, items_in}
use Rattle.funding_plans.specs.declared.plan.Part.{Part}
use Rattle.channel_safety.specs.Journals.{In}
use Rattle.funding_plans.specs.Outcomes.{names}
use Rattle.funding_plans.specs.declared.child.Child.{Child}
use Rattle.share_laws.specs.Places.{outcomes_of}
use Rattle.std.proofs.lemmas.Bool.{eq-eqb}
use Rattle.fairness_laws.proofs.Truths.{either}
use Rattle.fairness_laws.proofs.Outcomes.{only}
use Rattle.fairness_laws.specs.LedgerKeeping.{Lends, Backs, IsVoted, LedgerKeeps, ChildrenApart, Follows, stays, settles, proposes}
use Rattle.fairness_laws.specs.LedgerLending.{Lent}
use Rattle.fairness_laws.specs.LedgerMoving.{IsUp}

pub same-lent : (o : Option Lent) (j k : Lent) → o ≡ Some j → o ≡ Some k → j ≡ k
same-lent o j k e f = some-eq j k (sym e ∙ f)

differs : (a b : ℕ) → (a == b) ≡ false → a ≢ b
differs a b e same = clash (a == b) (eq-eqb a b same) e

-- ---- what going up leaves as it is

module _ (k : Child) (from to : List AssetOutcome) (is : IsUp k from to) where
  -- people's items stay
  pub people-stay : (asset : ℕ) (p : List ℕ) → has (items_in asset to) (Person p) ≡ has (items_in asset from) (Person p)
  people-stay asset p = go (asset == k.asset) refl
    where
      go : (b : Bool) → (asset == k.asset) ≡ b → has (items_in asset to) (Person p) ≡ has (items_in asset from) (Person p)
      go true e = subst (λ (a : ℕ). has (items_in a to) (Person p) ≡ has (items_in a from) (Person p)) (sym (eqb-true asset k.asset e)) (is.people p)
      go false e = ap (λ (o : Option Shape). has (items_of o) (Person p)) (is.others asset (differs asset k.asset e))

  -- and so do items of channels, but in this asset the child's
  pub channels-stay : (asset : ℕ) (x : List ℕ) → (asset ≢ k.asset) ⊎ (bytes_eq x k.name ≡ false)
      → (has (items_in asset to) (Channel x) ≡ has (items_in asset from) (Channel x)) × (amt (items_in asset to) (Channel x) ≡ amt (items_in asset from) (Channel x))
  channels-stay asset x (inl other) =
      (ap (λ (o : Option Shape). has (items_of o) (Channel x)) (is.others asset other), ap (λ (o : Option Shape). amt (items_of o) (Channel x)) (is.others asset other))
  channels-stay asset x (inr differ) = go (asset == k.asset) refl
    where
      go : (b : Bool) → (asset == k.asset) ≡ b → (has (items_in asset to) (Channel x) ≡ has (items_in asset from) (Channel x)) × (amt (items_in asset to) (Channel x) ≡ amt (items_in asset from) (Channel x))
      go true e =
          subst (λ (a : ℕ). (has (items_in a to) (Channel x) ≡ has (items_in a from) (Channel x)) × (amt (items_in a to) (Channel x) ≡ amt (items_in a from) (Channel x)))
          (sym (eqb-true asset k.asset e)) (is.one.others x differ)
      go false e =
          let other : asset ≢ k.asset = differs asset k.asset e in
          (ap (λ (o : Option Shape). has (items_of o) (Channel x)) (is.others asset other), ap (λ (o : Option Shape). amt (items_of o) (Channel x)) (is.others asset other))

-- ---- one step of a ledger

-- what a target leaves to the other parts: their children and people's items, and it names no child but this
pub record Leaves (x : List ℕ) (asset : ℕ) (now target : List AssetOutcome) : Type 0 where
  pub people : (a : ℕ) (p : List ℕ) → has (items_in a target) (Person p) ≡ has (items_in a now) (Person p)
  pub channels : (a : ℕ) (y : List ℕ) → (a ≢ asset) ⊎ (bytes_eq y x ≡ false)
      → (has (items_in a target) (Channel y) ≡ has (items_in a now) (Channel y)) × (amt (items_in a target) (Channel y) ≡ amt (items_in a now) (Channel y))

module _ (parts : List Part) (lends : Lends) (l : List ℕ) (last state : StateParts) (now : List AssetOutcome) (keeps : LedgerKeeps parts lends l last)
    (could : In now (outcomes_of last)) where
  -- one outcome alone, with which it could end
  pub repeats : state.outcome ≡ now → outcomes_of state ≡ state.outcome ∷ [] → LedgerKeeps parts lends l state
  repeats same alone = record {
    backs = λ p k o i is there.
        let old = keeps.backs p k now i is could in
        subst (Backs k state) (sym (at-now o there)) (record {
          amount = old.amount;
          one = old.one;
          other = old.other;
          room = old.room;
          up = old.up;
          gone = λ closing none. ap (names k.child) (sym same) ∙ none;
        });
    known = λ asset x o there has-it. keeps.known asset x now could (subst (λ (o : List AssetOutcome). has (items_in asset o) (Channel x) ≡ true) (at-now o there) has-it);
    quiet = inl alone;
  }
    where
      at-now : (o : List AssetOutcome) → In o (outcomes_of state) → o ≡ now
      at-now o there = only state state.outcome alone o there ∙ same

  module _ (apart : ChildrenApart parts lends l) (target : List AssetOutcome) (follows : Follows now target state) (p : Part) (k : Lent) (there : In p parts)
      (is : lends l p ≡ Some k) (leaves : Leaves k.child.name k.child.asset now target) where
    -- the outcomes with which it can end
    pub one-of : (o : List AssetOutcome) → In o (outcomes_of state) → (o ≡ now) ⊎ (o ≡ target)
    one-of o i = go follows
      where
        single : outcomes_of state ≡ state.outcome ∷ [] → o ≡ state.outcome
        single alone = only state state.outcome alone o i

        go : Follows now target state → (o ≡ now) ⊎ (o ≡ target)
        go (stays same alone) = inl (single alone ∙ same)
        go (settles same alone) = inr (single alone ∙ same)
        go (proposes same all differ) = all o i

    pub first-of : (state.outcome ≡ now) ⊎ (state.outcome ≡ target)
    first-of = go follows
      where
        go : Follows now target state → (state.outcome ≡ now) ⊎ (state.outcome ≡ target)
        go (stays same alone) = inl same
        go (settles same alone) = inr same
        go (proposes same all differ) = inl same

    -- ---- another part

    module _ (q : Part) (j : Lent) (i : In q parts) (isj : lends l q ≡ Some j) (differ : bytes_eq j.child.name k.child.name ≡ false) where
      same-at : (o : List AssetOutcome) → (o ≡ now) ⊎ (o ≡ target)
          → (names j.child o ≡ names j.child now) × (amt (items_in j.child.asset o) (Channel j.child.name) ≡ amt (items_in j.child.asset now) (Channel j.child.name))
      same-at o (inl e) = (ap (names j.child) e, ap (λ (o : List AssetOutcome). amt (items_in j.child.asset o) (Channel j.child.name)) e)
      same-at o (inr e) =
          let s = leaves.channels j.child.asset j.child.name (inr differ) in
          (ap (names j.child) e ∙ s.0, ap (λ (o : List AssetOutcome). amt (items_in j.child.asset o) (Channel j.child.name)) e ∙ s.1)

      people-at : (x : List ℕ) (o : List AssetOutcome) → (o ≡ now) ⊎ (o ≡ target) → has (items_in j.child.asset o) (Person x) ≡ has (items_in j.child.asset now) (Person x)
      people-at x o (inl e) = ap (λ (o : List AssetOutcome). has (items_in j.child.asset o) (Person x)) e
      people-at x o (inr e) = ap (λ (o : List AssetOutcome). has (items_in j.child.asset o) (Person x)) e ∙ leaves.people j.child.asset x

      -- where the one part is voted for, the other isn't
      other-backs : ((j.closing ≡ false) × (j.is_up ≡ false) → ⊥) → (o : List AssetOutcome) → In o (outcomes_of state) → Backs j state o
      other-backs idle o m =
          let old = keeps.backs q j now i isj could in
          let s = same-at o (one-of o m) in
          record {
            amount = λ named. s.1 ∙ old.amount (sym s.0 ∙ named);
            one = people-at j.child.first o (one-of o m) ∙ old.one;
            other = people-at j.child.second o (one-of o m) ∙ old.other;
            room = λ closing up. absurd (idle (closing, up));
            up = λ up falls. s.0 ∙ old.up up falls;
            gone = λ closing none. s.0 ∙ sym (same-at state.outcome first-of).0 ∙ none;
          }

      -- nor did it go up again
      pub other-gone : j.closing ≡ true → names j.child last.outcome ≡ false → names j.child state.outcome ≡ false
      other-gone closing none = (same-at state.outcome first-of).0 ∙ (keeps.backs q j now i isj could).gone closing none

    -- ---- names

    known-at : (asset : ℕ) (x : List ℕ) (o : List AssetOutcome) → In o (outcomes_of state) → has (items_in asset o) (Channel x) ≡ true
        → (p : Part) × (k : Lent) × In p parts × (lends l p ≡ Some k) × (k.child.name ≡ x)
    known-at asset x o m named = go (one-of o m)
      where
        go : (o ≡ now) ⊎ (o ≡ target) → (p : Part) × (k : Lent) × In p parts × (lends l p ≡ Some k) × (k.child.name ≡ x)
        go (inl e) = keeps.known asset x now could (subst (λ (o : List AssetOutcome). has (items_in asset o) (Channel x) ≡ true) e named)
        go (inr e) = by (either (bytes_eq x k.child.name))
          where
            by : (bytes_eq x k.child.name ≡ true) ⊎ (bytes_eq x k.child.name ≡ false) → (p : Part) × (k : Lent) × In p parts × (lends l p ≡ Some k) × (k.child.name ≡ x)
            by (inl same) = (p, k, there, is, sym (same_bytes x k.child.name same))
            by (inr differ) =
                keeps.known asset x now could
                (sym (leaves.channels asset x (inr differ)).0 ∙ subst (λ (o : List AssetOutcome). has (items_in asset o) (Channel x) ≡ true) e named)

    -- ---- the whole

    -- what this part needs of an outcome, and which votes are for it
    pub record Turns : Type 0 where
      pub own : (o : List AssetOutcome) → In o (outcomes_of state) → Backs k state o
      pub votes : (target ≡ now → ⊥) → state.outcome ≡ now → IsVoted k state

    module _ (turns : Turns) (alone : (q : Part) (j : Lent) → In q parts → lends l q ≡ Some j → IsVoted j last → q ≡ p) where
      backs-at : (q : Part) (j : Lent) (o : List AssetOutcome) → In q parts → lends l q ≡ Some j → In o (outcomes_of state) → Backs j state o
      backs-at q j o i isj m = go (either (bytes_eq j.child.name k.child.name))
        where
          go : (bytes_eq j.child.name k.child.name ≡ true) ⊎ (bytes_eq j.child.name k.child.name ≡ false) → Backs j state o
          go (inl same) =
              let one : q ≡ p = apart q p j k i there isj is same in
              subst (λ (z : Lent). Backs z state o) (same-lent (lends l p) k j is (subst (λ (z : Part). lends l z ≡ Some j) one isj)) (turns.own o m)
          go (inr differ) = other-backs q j i isj differ idle o m
            where
              idle : (j.closing ≡ false) × (j.is_up ≡ false) → ⊥
              idle pending =
                  let one : q ≡ p = alone q j i isj (inl pending) in
                  let same : j ≡ k = same-lent (lends l p) j k (subst (λ (z : Part). lends l z ≡ Some j) one isj) is in
                  clash (bytes_eq j.child.name k.child.name) (subst (λ (z : Lent). bytes_eq j.child.name z.child.name ≡ true) same (bytes_eq_self j.child.name)) differ

      quiet-at : Follows now target state → (outcomes_of state ≡ state.outcome ∷ []) ⊎ ((p : Part) × (k : Lent) × In p parts × (lends l p ≡ Some k) × IsVoted k state)
      quiet-at (stays same single) = inl single
      quiet-at (settles same single) = inl single
      quiet-at (proposes same all differ) = inr (p, k, there, is, turns.votes differ same)

      pub goes : LedgerKeeps parts lends l state
      goes = record { backs = backs-at; known = known-at; quiet = quiet-at follows }
