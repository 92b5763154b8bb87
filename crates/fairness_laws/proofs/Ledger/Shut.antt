-- A part that closes and isn't pending on a ledger: no step changes that.
use Rattle.std.proofs.Common.{◌≡◌, ℕ, true, false, ◌⊎◌, inl, inr, List, sym, ◌∙◌, subst}
use Rattle.std.specs.Prelude.{Option, Some}
use Rattle.std.specs.Str.{bytes_eq}
use Rattle.channel_values.specs.Parts.{StateParts}
use Rattle.channel_safety.proofs.Tests.{some-eq, clash}
use Rattle.call_history.proofs.Names.{same_bytes}
use Rattle.funding_plans.specs.declared.plan.Part.{Part}
use Rattle.channel_safety.specs.Journals.{In}
use Rattle.funding_plans.specs.Outcomes.{names}
use Rattle.funding_plans.specs.declared.child.Child.{Child}
use Rattle.fairness_laws.proofs.Truths.{either}
use Rattle.fairness_laws.specs.LedgerKeeping.{Lends, IsPending, AllKeep, Drifts, Closing, other, this, Closes}
use Rattle.fairness_laws.specs.LedgerLending.{Lent}
use Rattle.fairness_laws.specs.LedgerPlaces.{Step, drifts, opens, closes, moves, starts}
use Rattle.fairness_laws.proofs.Ledger.Going.{Stepped}
use Rattle.fairness_laws.proofs.Ledger.Steps.{same-lent}
use Rattle.fairness_laws.proofs.Ledger.Whole.{stepped}

-- by the state that was signed last there
pub record IsShut (k : Lent) (own : Option StateParts) : Type 0 where
  pub closing : k.closing ≡ true
  pub idle : (last : StateParts) → own ≡ Some last → IsPending k last → ⊥

-- so is what is set aside later for the same child
shut-as : (k j : Lent) (own : Option StateParts) → j.closing ≡ k.closing → j.child ≡ k.child → IsShut k own → IsShut j own
shut-as k j own closing child shut = record { closing = now; idle = λ last e pending. shut.idle last e (before last pending) }
  where
    now : j.closing ≡ true
    now = closing ∙ shut.closing

    before : (last : StateParts) → IsPending j last → IsPending k last
    before last (inl early) = absurd (clash j.closing now early.0)
    before last (inr late) = inr (shut.closing, subst (λ (c : Child). names c last.outcome ≡ true) child late.1)

-- ---- steps

module _ (parts : List Part) (l : List ℕ) (p : Part) (k j : Lent) (i : In p parts) where
  drift-shut : (was lends : Lends) (own : List ℕ → Option StateParts) → Drifts parts was lends own → was l p ≡ Some k → lends l p ≡ Some j → IsShut k (own l) → IsShut j (own l)
  drift-shut was lends own d isk isj shut =
      let b = d.before l p j i isj in
      let same : k ≡ b.0 = same-lent (was l p) k b.0 isk b.1 in
      shut-as b.0 j (own l) b.2.closing b.2.child (subst (λ (z : Lent). IsShut z (own l)) same shut)

  close-shut : (q : Part) (was lends : Lends) (own : List ℕ → Option StateParts) → Closes parts q was lends own → was l p ≡ Some k → lends l p ≡ Some j → IsShut k (own l) → IsShut j (own l)
  close-shut q was lends own c isk isj shut = by (c.before l p j i isj)
    where
      by : (z : Lent) × (was l p ≡ Some z) × (j.child ≡ z.child) × (j.is_up ≡ z.is_up) × (j.done ≡ z.done) × Closing q p z j → IsShut j (own l)
      by (z, at, child, up, done, change) = go change
        where
          old : IsShut z (own l)
          old = subst (λ (y : Lent). IsShut y (own l)) (same-lent (was l p) k z isk at) shut

          go : Closing q p z j → IsShut j (own l)
          go (other closing falls) = shut-as z j (own l) closing child old
          go (this is now early was-up low) = absurd (clash z.closing old.closing early)

-- each step
pub steps-shut : (parts : List Part) (lends : Lends) (own : List ℕ → Option StateParts) (new : List Part) (now : Lends) (next : List ℕ → Option StateParts) → AllKeep parts lends own
    → Step parts lends own new now next → (l : List ℕ) (p : Part) (k j : Lent) → In p parts → lends l p ≡ Some k → now l p ≡ Some j → IsShut k (own l) → IsShut j (next l)
steps-shut parts lends own new now next keeps (drifts same d own-same) l p k j i isk isj shut =
    subst (IsShut j) (sym (own-same l)) (drift-shut parts l p k j i lends now own d isk isj shut)
steps-shut parts lends own new now next keeps (opens q more d o own-same) l p k j i isk isj shut =
    subst (IsShut j) (sym (own-same l)) (drift-shut parts l p k j i lends now own d isk isj shut)
steps-shut parts lends own new now next keeps (closes q same c own-same) l p k j i isk isj shut =
    subst (IsShut j) (sym (own-same l)) (close-shut parts l p k j i q lends now own c isk isj shut)
steps-shut parts lends own new now next keeps (moves m last state o same d signed could valid apart moved after rest) l p k j i isk isj shut =
    drift-shut parts l p k j i lends now next d isk isj (by (either (bytes_eq l m)))
  where
    step : Stepped parts lends m last state
    step = stepped parts lends m last state o own next keeps signed could valid apart after rest moved

    by : (bytes_eq l m ≡ true) ⊎ (bytes_eq l m ≡ false) → IsShut k (next l)
    by (inl here) =
        let it : l ≡ m = same_bytes l m here in
        record {
          closing = shut.closing;
          idle = λ new-last e pending.
              let new-is : new-last ≡ state = some-eq new-last state (sym (subst (λ (z : List ℕ). next z ≡ Some new-last) it e) ∙ after) in
              shut.idle last (subst (λ (z : List ℕ). own z ≡ Some last) (sym it) signed)
              (step.before p k i (subst (λ (z : List ℕ). lends z p ≡ Some k) it isk) (subst (IsPending k) new-is pending));
        }
    by (inr differ) = subst (IsShut k) (sym (rest l differ)) shut
steps-shut parts lends own new now next keeps (starts m state same d none alone bare unsigned after rest) l p k j i isk isj shut =
    drift-shut parts l p k j i lends now next d isk isj (by (either (bytes_eq l m)))
  where
    by : (bytes_eq l m ≡ true) ⊎ (bytes_eq l m ≡ false) → IsShut k (next l)
    by (inl here) = absurd (none p k i (subst (λ (z : List ℕ). lends z p ≡ Some k) (same_bytes l m here) isk))
    by (inr differ) = subst (IsShut k) (sym (rest l differ)) shut
