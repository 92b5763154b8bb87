-- All ledgers of a plan, when what is set aside drifts, a part is opened or closed, or a ledger moves.
use Rattle.std.proofs.Common.{◌≡◌, ℕ, ◌+◌, ◌≤◌, true, false, ◌⊎◌, inl, inr, List, [], ◌∷◌, ◌++◌, refl, sym, ◌∙◌, ap, subst}
use Rattle.std.specs.Prelude.{Option, Some}
use Rattle.std.specs.Str.{bytes_eq}
use Rattle.channel_values.specs.Outcomes.{IsOutcome}
use Rattle.channel_values.specs.Parts.{StateParts}
use Rattle.channel_values.specs.declared.value.AssetOutcome.{AssetOutcome}
use Rattle.channel_values.specs.declared.value.Dest.TheVariants.{Person, Channel}
use Rattle.channel_safety.proofs.Tests.{some-eq, clash}
use Rattle.call_history.proofs.Names.{same_bytes}
use Rattle.channel_values.specs.Amounts.{amt, has}
use Rattle.funding_plans.specs.Shapes.{items_in}
use Rattle.funding_plans.specs.declared.plan.Part.{Part}
use Rattle.channel_safety.proofs.Members.{In-append_cases}
use Rattle.channel_safety.specs.Journals.{In}
use Rattle.funding_plans.specs.Outcomes.{names}
use Rattle.funding_plans.specs.declared.child.Child.{Child}
use Rattle.share_laws.specs.Places.{outcomes_of}
use Rattle.fairness_laws.proofs.Truths.{either, untrue}
use Rattle.fairness_laws.proofs.Outcomes.{only as only-one}
use Rattle.fairness_laws.specs.LedgerKeeping.{Lends, Backs, IsPending, IsVoted, LedgerKeeps, PendingOn, OnePending, AllKeep, ChildrenApart, HasGoneUp, Later, Drifts, Opens, Closing, other, this, Closes, Moves, DriftsKeep, OpeningsKeep, ClosingsKeep, MovesKeep}
use Rattle.fairness_laws.specs.LedgerKeeping as keeping
use Rattle.fairness_laws.specs.LedgerLending.{Lent}
use Rattle.fairness_laws.specs.LedgerMoving.{HaveItems, Afford}
use Rattle.fairness_laws.proofs.Ledger.Steps.{same-lent}
use Rattle.fairness_laws.proofs.Ledger.Going.{Stepped, step-repeats, step-up, step-down}

-- of another value with the same child
backs-as : (k j : Lent) (last : StateParts) (o : List AssetOutcome) → j.child ≡ k.child → Backs k last o
    → (j.closing ≡ false → j.is_up ≡ false → (k.closing ≡ false) × (k.is_up ≡ false))
    → (j.is_up ≡ true → j.falls ≡ false → names k.child o ≡ true)
    → (j.closing ≡ true → names k.child last.outcome ≡ false → names k.child o ≡ false) → Backs j last o
backs-as k j last o same b room up gone = record {
  amount = λ named. subst (λ (c : Child). amt (items_in c.asset o) (Channel c.name) ≡ c.a + c.b) (sym same) (b.amount (subst (λ (c : Child). names c o ≡ true) same named));
  one = subst (λ (c : Child). has (items_in c.asset o) (Person c.first) ≡ true) (sym same) b.one;
  other = subst (λ (c : Child). has (items_in c.asset o) (Person c.second) ≡ true) (sym same) b.other;
  room = λ c u. let r = room c u in
      subst (λ (c : Child). (names c o ≡ true) ⊎ ((c.a ≤ amt (items_in c.asset o) (Person c.first)) × (c.b ≤ amt (items_in c.asset o) (Person c.second)))) (sym same) (b.room r.0 r.1);
  up = λ u low. subst (λ (c : Child). names c o ≡ true) (sym same) (up u low);
  gone = λ c none. subst (λ (c : Child). names c o ≡ false) (sym same) (gone c (subst (λ (c : Child). names c last.outcome ≡ false) same none));
}

-- who is voted for is pending
pub is-pending : (parts : List Part) (lends : Lends) (own : List ℕ → Option StateParts) → AllKeep parts lends own → (l : List ℕ) (p : Part) (k : Lent) (last : StateParts) → In p parts → lends l p ≡ Some k → IsVoted k last → IsPending k last
is-pending parts lends own keeps l p k last i is (inl early) = inl (early.0, untrue k.done k.is_up (keeps.ready l p k i is early.0) early.1)
is-pending parts lends own keeps l p k last i is (inr late) = inr (late.0, late.2)

-- where nothing is pending no votes stand
pub alone-idle : (parts : List Part) (lends : Lends) (own : List ℕ → Option StateParts) → AllKeep parts lends own → ((q : Part) → In q parts → PendingOn lends own q → ⊥)
    → (l : List ℕ) (last : StateParts) → own l ≡ Some last → outcomes_of last ≡ last.outcome ∷ []
alone-idle parts lends own keeps idle l last e = by (keeps.ledgers l last e).quiet
  where
    by : (outcomes_of last ≡ last.outcome ∷ []) ⊎ ((q : Part) × (k : Lent) × In q parts × (lends l q ≡ Some k) × IsVoted k last) → outcomes_of last ≡ last.outcome ∷ []
    by (inl alone) = alone
    by (inr (q, k, i, is, voted)) = absurd (idle q i (record { ledger = l; lent = k; is = is; last = last; signed = e; pending = is-pending parts lends own keeps l q k last i is voted }))

-- ---- drift

module _ (parts : List Part) (was lends : Lends) (own : List ℕ → Option StateParts) (keeps : AllKeep parts was own) (drifts : Drifts parts was lends own) where
  drift-backs : (l : List ℕ) (last : StateParts) → own l ≡ Some last → (p : Part) (j : Lent) (o : List AssetOutcome) → In p parts → lends l p ≡ Some j → In o (outcomes_of last) → Backs j last o
  drift-backs l last e p j o i is m = by (drifts.before l p j i is)
    where
      by : (k : Lent) × (was l p ≡ Some k) × Later k j (own l) → Backs j last o
      by (k, at, later) =
          backs-as k j last o later.child b (λ c u. (sym later.closing ∙ c, untrue k.is_up j.is_up later.is_up u))
          (λ u low. up (either k.is_up) u low) (λ c none. b.gone (sym later.closing ∙ c) none)
        where
          b : Backs k last o
          b = (keeps.ledgers l last e).backs p k o i at m

          up : (k.is_up ≡ true) ⊎ (k.is_up ≡ false) → j.is_up ≡ true → j.falls ≡ false → names k.child o ≡ true
          up (inl was-up) u low = b.up was-up (untrue k.falls j.falls later.falls low)
          up (inr late) u low =
              let g = later.rises late u last e in
              subst (λ (c : Child). names c o ≡ true) later.child (subst (λ (o : List AssetOutcome). names j.child o ≡ true) (sym (only-one last last.outcome g.alone o m)) g.named)

  drift-known : (l : List ℕ) (last : StateParts) → own l ≡ Some last → (asset : ℕ) (x : List ℕ) (o : List AssetOutcome) → In o (outcomes_of last) → has (items_in asset o) (Channel x) ≡ true
      → (p : Part) × (k : Lent) × In p parts × (lends l p ≡ Some k) × (k.child.name ≡ x)
  drift-known l last e asset x o m named = by ((keeps.ledgers l last e).known asset x o m named)
    where
      by : (p : Part) × (k : Lent) × In p parts × (was l p ≡ Some k) × (k.child.name ≡ x) → (p : Part) × (k : Lent) × In p parts × (lends l p ≡ Some k) × (k.child.name ≡ x)
      by (p, k, i, at, same) = with-later (drifts.after l p k i at)
        where
          with-later : (j : Lent) × (lends l p ≡ Some j) → (p : Part) × (k : Lent) × In p parts × (lends l p ≡ Some k) × (k.child.name ≡ x)
          with-later (j, is) =
              let b = drifts.before l p j i is in
              let old : k ≡ b.0 = same-lent (was l p) k b.0 at b.1 in
              (p, j, i, is, ap (λ (c : Child). c.name) (b.2.child ∙ ap (λ (z : Lent). z.child) (sym old)) ∙ same)

  drift-quiet : (l : List ℕ) (last : StateParts) → own l ≡ Some last
      → (outcomes_of last ≡ last.outcome ∷ []) ⊎ ((p : Part) × (k : Lent) × In p parts × (lends l p ≡ Some k) × IsVoted k last)
  drift-quiet l last e = by (keeps.ledgers l last e).quiet
    where
      by : (outcomes_of last ≡ last.outcome ∷ []) ⊎ ((p : Part) × (k : Lent) × In p parts × (was l p ≡ Some k) × IsVoted k last)
          → (outcomes_of last ≡ last.outcome ∷ []) ⊎ ((p : Part) × (k : Lent) × In p parts × (lends l p ≡ Some k) × IsVoted k last)
      by (inl alone) = inl alone
      by (inr (p, k, i, at, voted)) = with-later (drifts.after l p k i at)
        where
          with-later : (j : Lent) × (lends l p ≡ Some j) → (outcomes_of last ≡ last.outcome ∷ []) ⊎ ((p : Part) × (k : Lent) × In p parts × (lends l p ≡ Some k) × IsVoted k last)
          with-later (j, is) = go voted (either j.is_up)
            where
              b : (z : Lent) × (was l p ≡ Some z) × Later z j (own l)
              b = drifts.before l p j i is

              old : b.0 ≡ k
              old = same-lent (was l p) b.0 k b.1 at

              later : Later k j (own l)
              later = subst (λ (z : Lent). Later z j (own l)) old b.2

              go : IsVoted k last → (j.is_up ≡ true) ⊎ (j.is_up ≡ false)
                  → (outcomes_of last ≡ last.outcome ∷ []) ⊎ ((p : Part) × (k : Lent) × In p parts × (lends l p ≡ Some k) × IsVoted k last)
              go (inl early) (inl up) = inl (later.rises early.1 up last e).alone
              go (inl early) (inr none) = inr (p, j, i, is, inl (later.closing ∙ early.0, none))
              go (inr late) u = inr (p, j, i, is, inr (later.closing ∙ late.0, later.falls late.1, subst (λ (c : Child). names c last.outcome ≡ true) (sym later.child) late.2))

  pub drift-pending : (p : Part) → In p parts → PendingOn lends own p → PendingOn was own p
  drift-pending p i w = by (drifts.before w.ledger p w.lent i w.is)
    where
      by : (k : Lent) × (was w.ledger p ≡ Some k) × Later k w.lent (own w.ledger) → PendingOn was own p
      by (k, at, later) = record { ledger = w.ledger; lent = k; is = at; last = w.last; signed = w.signed; pending = go w.pending }
        where
          go : IsPending w.lent w.last → IsPending k w.last
          go (inl early) = let runs : k.closing ≡ false = sym later.closing ∙ early.0 in inl (runs, untrue k.done w.lent.done (later.done runs) early.1)
          go (inr late) = inr (sym later.closing ∙ late.0, subst (λ (c : Child). names c w.last.outcome ≡ true) later.child late.1)

pub drifts_keep : DriftsKeep
drifts_keep parts was lends own keeps drifts = record {
  ledgers = λ l last e. record {
    backs = drift-backs parts was lends own keeps drifts l last e;
    known = drift-known parts was lends own keeps drifts l last e;
    quiet = drift-quiet parts was lends own keeps drifts l last e;
  };
  one = λ p q i m v w. keeps.one p q i m (drift-pending parts was lends own keeps drifts p i v) (drift-pending parts was lends own keeps drifts q m w);
  late = λ l p j i is c. let b = drifts.before l p j i is in b.2.is_up (keeps.late l p b.0 i b.1 (sym b.2.closing ∙ c));
  ready = λ l p j i is. (drifts.before l p j i is).2.ready;
}

-- ---- a new part

in-front : (p : Part) (xs : List Part) (q : Part) → In q xs → In q (xs ++ p ∷ [])
in-front p [] q i = absurd i
in-front p (x ∷ xs) q (inl e) = inl e
in-front p (x ∷ xs) q (inr i) = inr (in-front p xs q i)

module _ (parts : List Part) (p : Part) (lends : Lends) (own : List ℕ → Option StateParts) (keeps : AllKeep parts lends own) (opens : Opens parts p lends own) where
  old-or-new : (q : Part) → In q (parts ++ p ∷ []) → In q parts ⊎ (q ≡ p)
  old-or-new q i = by (In-append_cases q parts (p ∷ []) i)
    where
      by : In q parts ⊎ In q (p ∷ []) → In q parts ⊎ (q ≡ p)
      by (inl i) = inl i
      by (inr (inl e)) = inr e
      by (inr (inr n)) = absurd n

  -- nothing is pending, so no votes stand
  alone-now : (l : List ℕ) (last : StateParts) → own l ≡ Some last → outcomes_of last ≡ last.outcome ∷ []
  alone-now = alone-idle parts lends own keeps opens.idle

  new-backs : (l : List ℕ) (last : StateParts) → own l ≡ Some last → (k : Lent) (o : List AssetOutcome) → lends l p ≡ Some k → In o (outcomes_of last) → Backs k last o
  new-backs l last e k o is m = subst (Backs k last) (sym (only-one last last.outcome (alone-now l last e) o m)) (record {
    amount = λ named. absurd (nobody ((keeps.ledgers l last e).known k.child.asset k.child.name last.outcome (inl refl) named));
    one = a.0.one;
    other = a.0.other;
    room = λ c u. inr (a.1.one, a.1.other);
    up = λ u low. absurd (clash k.is_up u (opens.fresh l k is).1);
    gone = λ c none. absurd (clash k.closing c (opens.fresh l k is).0);
  })
    where
      a : HaveItems k.child last.outcome × Afford k.child last.outcome
      a = opens.affords l k is last e

      nobody : (q : Part) × (j : Lent) × In q parts × (lends l q ≡ Some j) × (j.child.name ≡ k.child.name) → ⊥
      nobody (q, j, i, isj, same) = opens.unnamed l k is q j i isj same

  open-backs : (l : List ℕ) (last : StateParts) → own l ≡ Some last → (q : Part) (k : Lent) (o : List AssetOutcome) → In q (parts ++ p ∷ []) → lends l q ≡ Some k → In o (outcomes_of last) → Backs k last o
  open-backs l last e q k o i is m = by (old-or-new q i)
    where
      by : In q parts ⊎ (q ≡ p) → Backs k last o
      by (inl i) = (keeps.ledgers l last e).backs q k o i is m
      by (inr same) = new-backs l last e k o (subst (λ (z : Part). lends l z ≡ Some k) same is) m

  open-known : (l : List ℕ) (last : StateParts) → own l ≡ Some last → (asset : ℕ) (x : List ℕ) (o : List AssetOutcome) → In o (outcomes_of last) → has (items_in asset o) (Channel x) ≡ true
      → (q : Part) × (k : Lent) × In q (parts ++ p ∷ []) × (lends l q ≡ Some k) × (k.child.name ≡ x)
  open-known l last e asset x o m named = by ((keeps.ledgers l last e).known asset x o m named)
    where
      by : (q : Part) × (k : Lent) × In q parts × (lends l q ≡ Some k) × (k.child.name ≡ x) → (q : Part) × (k : Lent) × In q (parts ++ p ∷ []) × (lends l q ≡ Some k) × (k.child.name ≡ x)
      by (q, k, i, is, same) = (q, k, in-front p parts q i, is, same)

  new-alone : (q : Part) → In q (parts ++ p ∷ []) → PendingOn lends own q → q ≡ p
  new-alone q i w = by (old-or-new q i)
    where
      by : In q parts ⊎ (q ≡ p) → q ≡ p
      by (inl i) = absurd (opens.idle q i w)
      by (inr same) = same

pub openings_keep : OpeningsKeep
openings_keep parts p lends own keeps opens = record {
  ledgers = λ l last e. record {
    backs = open-backs parts p lends own keeps opens l last e;
    known = open-known parts p lends own keeps opens l last e;
    quiet = inl (alone-now parts p lends own keeps opens l last e);
  };
  one = λ q r i m v w. new-alone parts p lends own keeps opens q i v ∙ sym (new-alone parts p lends own keeps opens r m w);
  late = λ l q k i is c. late-at l q k (old-or-new parts p lends own keeps opens q i) is c;
  ready = λ l q k i is c d. ready-at l q k (old-or-new parts p lends own keeps opens q i) is c d;
}
  where
    late-at : (l : List ℕ) (q : Part) (k : Lent) → In q parts ⊎ (q ≡ p) → lends l q ≡ Some k → k.closing ≡ true → k.is_up ≡ true
    late-at l q k (inl i) is c = keeps.late l q k i is c
    late-at l q k (inr same) is c = absurd (clash k.closing c (opens.fresh l k (subst (λ (z : Part). lends l z ≡ Some k) same is)).0)

    ready-at : (l : List ℕ) (q : Part) (k : Lent) → In q parts ⊎ (q ≡ p) → lends l q ≡ Some k → k.closing ≡ false → k.done ≡ true → k.is_up ≡ true
    ready-at l q k (inl i) is c d = keeps.ready l q k i is c d
    ready-at l q k (inr same) is c d = absurd (clash k.done d (opens.fresh l k (subst (λ (z : Part). lends l z ≡ Some k) same is)).2)

-- ---- a part that begins to close

module _ (parts : List Part) (p : Part) (was lends : Lends) (own : List ℕ → Option StateParts) (keeps : AllKeep parts was own) (closes : Closes parts p was lends own) where
  alone-then : (l : List ℕ) (last : StateParts) → own l ≡ Some last → outcomes_of last ≡ last.outcome ∷ []
  alone-then = alone-idle parts was own keeps closes.idle

  close-backs : (l : List ℕ) (last : StateParts) → own l ≡ Some last → (q : Part) (j : Lent) (o : List AssetOutcome) → In q parts → lends l q ≡ Some j → In o (outcomes_of last) → Backs j last o
  close-backs l last e q j o i is m = by (closes.before l q j i is)
    where
      by : (k : Lent) × (was l q ≡ Some k) × (j.child ≡ k.child) × (j.is_up ≡ k.is_up) × (j.done ≡ k.done) × Closing p q k j → Backs j last o
      by (k, at, same, up, done, change) = go change
        where
          b : Backs k last o
          b = (keeps.ledgers l last e).backs q k o i at m

          first : Backs k last last.outcome
          first = (keeps.ledgers l last e).backs q k last.outcome i at (inl refl)

          go : Closing p q k j → Backs j last o
          go (other c f) = backs-as k j last o same b (λ x y. (sym c ∙ x, sym up ∙ y)) (λ u low. b.up (sym up ∙ u) (sym f ∙ low)) (λ x none. b.gone (sym c ∙ x) none)
          go (this is-p now early was-up low) =
              backs-as k j last o same b (λ x y. absurd (clash j.closing now x)) (λ u f. b.up was-up low)
              (λ x none. absurd (clash (names k.child last.outcome) (first.up was-up low) none))

  close-known : (l : List ℕ) (last : StateParts) → own l ≡ Some last → (asset : ℕ) (x : List ℕ) (o : List AssetOutcome) → In o (outcomes_of last) → has (items_in asset o) (Channel x) ≡ true
      → (q : Part) × (k : Lent) × In q parts × (lends l q ≡ Some k) × (k.child.name ≡ x)
  close-known l last e asset x o m named = by ((keeps.ledgers l last e).known asset x o m named)
    where
      by : (q : Part) × (k : Lent) × In q parts × (was l q ≡ Some k) × (k.child.name ≡ x) → (q : Part) × (k : Lent) × In q parts × (lends l q ≡ Some k) × (k.child.name ≡ x)
      by (q, k, i, at, same) = with-later (closes.after l q k i at)
        where
          with-later : (j : Lent) × (lends l q ≡ Some j) → (q : Part) × (k : Lent) × In q parts × (lends l q ≡ Some k) × (k.child.name ≡ x)
          with-later (j, is) =
              let b = closes.before l q j i is in
              let old : k ≡ b.0 = same-lent (was l q) k b.0 at b.1 in
              (q, j, i, is, ap (λ (c : Child). c.name) (b.2 ∙ ap (λ (z : Lent). z.child) (sym old)) ∙ same)

  close-alone : (q : Part) → In q parts → PendingOn lends own q → q ≡ p
  close-alone q i w = by (closes.before w.ledger q w.lent i w.is)
    where
      by : (k : Lent) × (was w.ledger q ≡ Some k) × (w.lent.child ≡ k.child) × (w.lent.is_up ≡ k.is_up) × (w.lent.done ≡ k.done) × Closing p q k w.lent → q ≡ p
      by (k, at, same, up, done, this is-p now early was-up low) = is-p
      by (k, at, same, up, done, other c f) = absurd (closes.idle q i (record { ledger = w.ledger; lent = k; is = at; last = w.last; signed = w.signed; pending = go w.pending }))
        where
          go : IsPending w.lent w.last → IsPending k w.last
          go (inl early) = inl (sym c ∙ early.0, sym done ∙ early.1)
          go (inr late) = inr (sym c ∙ late.0, subst (λ (z : Child). names z w.last.outcome ≡ true) same late.1)

pub closings_keep : ClosingsKeep
closings_keep parts p was lends own keeps closes = record {
  ledgers = λ l last e. record {
    backs = close-backs parts p was lends own keeps closes l last e;
    known = close-known parts p was lends own keeps closes l last e;
    quiet = inl (alone-then parts p was lends own keeps closes l last e);
  };
  one = λ q r i m v w. close-alone parts p was lends own keeps closes q i v ∙ sym (close-alone parts p was lends own keeps closes r m w);
  late = λ l q j i is c. let b = closes.before l q j i is in late-at l q b.0 j i b.1 b.3 b.5 c;
  ready = λ l q j i is c d. let b = closes.before l q j i is in ready-at l q b.0 j i b.1 b.3 b.4 b.5 c d;
}
  where
    late-at : (l : List ℕ) (q : Part) (k j : Lent) → In q parts → was l q ≡ Some k → j.is_up ≡ k.is_up → Closing p q k j → j.closing ≡ true → j.is_up ≡ true
    late-at l q k j i at up (other same falls) c = up ∙ keeps.late l q k i at (sym same ∙ c)
    late-at l q k j i at up (this is-p now early was-up low) c = up ∙ was-up

    ready-at : (l : List ℕ) (q : Part) (k j : Lent) → In q parts → was l q ≡ Some k → j.is_up ≡ k.is_up → j.done ≡ k.done → Closing p q k j → j.closing ≡ false → j.done ≡ true → j.is_up ≡ true
    ready-at l q k j i at up done (other same falls) c d = up ∙ keeps.ready l q k i at (sym same ∙ c) (sym done ∙ d)
    ready-at l q k j i at up done (this is-p now early was-up low) c d = up ∙ was-up

-- ---- a ledger that moves

module _ (parts : List Part) (lends : Lends) (l : List ℕ) (last state : StateParts) (now : List AssetOutcome) (own next : List ℕ → Option StateParts)
    (keeps : AllKeep parts lends own) (signed : own l ≡ Some last) (could : In now (outcomes_of last)) (valid : IsOutcome now) (apart : ChildrenApart parts lends l)
    (after : next l ≡ Some state) (rest : (m : List ℕ) → bytes_eq m l ≡ false → next m ≡ own m) where
  on-it : LedgerKeeps parts lends l last
  on-it = keeps.ledgers l last signed

  pending-on : (p : Part) (k : Lent) → lends l p ≡ Some k → IsPending k last → PendingOn lends own p
  pending-on p k is pending = record { ledger = l; lent = k; is = is; last = last; signed = signed; pending = pending }

  only : (p : Part) (k : Lent) → In p parts → lends l p ≡ Some k → IsVoted k last → (q : Part) (j : Lent) → In q parts → lends l q ≡ Some j → IsVoted j last → q ≡ p
  only p k i is voted q j m isj w =
      keeps.one q p m i (pending-on q j isj (is-pending parts lends own keeps l q j last m isj w)) (pending-on p k is (is-pending parts lends own keeps l p k last i is voted))

  -- what a move keeps, and that no part becomes pending by it
  pub stepped : Moves parts lends l now state → Stepped parts lends l last state
  stepped (keeping.repeats same alone) = step-repeats parts lends l last state now on-it could same alone
  stepped (keeping.up p k i is c u people sum follows) = step-up parts lends l last state now on-it could apart p k i is (only p k i is) c u valid people sum follows
  stepped (keeping.down p k a b i is c f people sum follows) = step-down parts lends l last state now on-it could apart p k i is (only p k i is) a b c f valid people sum follows

  module _ (step : Stepped parts lends l last state) where
    all-at : (m : List ℕ) (s : StateParts) → next m ≡ Some s → LedgerKeeps parts lends m s
    all-at m s e = by (either (bytes_eq m l))
      where
        by : (bytes_eq m l ≡ true) ⊎ (bytes_eq m l ≡ false) → LedgerKeeps parts lends m s
        by (inl same) =
            let it : m ≡ l = same_bytes m l same in
            let new : state ≡ s = some-eq state s (sym after ∙ subst (λ (z : List ℕ). next z ≡ Some s) it e) in
            subst (λ (z : List ℕ). LedgerKeeps parts lends z s) (sym it) (subst (LedgerKeeps parts lends l) new step.keeps)
        by (inr differ) = keeps.ledgers m s (sym (rest m differ) ∙ e)

    before-it : (p : Part) → In p parts → PendingOn lends next p → PendingOn lends own p
    before-it p i w = by (either (bytes_eq w.ledger l))
      where
        by : (bytes_eq w.ledger l ≡ true) ⊎ (bytes_eq w.ledger l ≡ false) → PendingOn lends own p
        by (inl same) =
            let it : w.ledger ≡ l = same_bytes w.ledger l same in
            let new : w.last ≡ state = some-eq w.last state (sym (subst (λ (z : List ℕ). next z ≡ Some w.last) it w.signed) ∙ after) in
            let is : lends l p ≡ Some w.lent = subst (λ (z : List ℕ). lends z p ≡ Some w.lent) it w.is in
            pending-on p w.lent is (step.before p w.lent i is (subst (IsPending w.lent) new w.pending))
        by (inr differ) = record { ledger = w.ledger; lent = w.lent; is = w.is; last = w.last; signed = sym (rest w.ledger differ) ∙ w.signed; pending = w.pending }

    all-keep : AllKeep parts lends next
    all-keep = record { ledgers = all-at; one = λ p q i m v w. keeps.one p q i m (before-it p i v) (before-it q m w); late = keeps.late; ready = keeps.ready }

pub moves_keep : MovesKeep
moves_keep parts lends l last state now own next keeps signed could valid apart moves after rest =
    all-keep parts lends l last state now own next keeps signed could valid apart after rest
    (stepped parts lends l last state now own next keeps signed could valid apart after rest moves)
