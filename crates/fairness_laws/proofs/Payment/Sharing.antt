-- Steps of a payment channel that shares one amount between its two people keep that.
use Rattle.std.proofs.Common.{◌≡◌, ℕ, ◌+◌, Bool, true, false, not, ◌&&◌, ◌||◌, List, [], ◌∷◌, length, refl, sym, ◌∙◌, ap, subst, ◌⊎◌, inl, inr, arith}
use Rattle.std.specs.Prelude.{◌==◌, None}
use Rattle.channel_values.specs.Outcomes.{is_same}
use Rattle.channel_values.specs.Parts.{FixedParts, StateParts, IsState}
use Rattle.channel_values.specs.declared.fault.StepFault.TheVariants as faults
use Rattle.channel_values.specs.declared.value.AssetOutcome.{AssetOutcome}
use Rattle.channel_values.specs.declared.value.Dest.{Dest}
use Rattle.channel_values.specs.declared.value.Item.{Item}
use Rattle.channel_values.specs.declared.value.Shape.{Shape}
use Rattle.channel_values.specs.declared.value.Shape.TheVariants.{Allocation, Guarantee}
use Rattle.support_rules.specs.Rules.{is_one_of, person_at, is_alike, are_assets_alike, are_shapes_alike, have_one_total, total_of, asset_fault, payment_fault, app_fault}
use Rattle.channel_values.specs.Rows.{mover}
use Rattle.channel_values.specs.Words.{fault_if, ◌⊳◌, all_along, first_along}
use Rattle.channel_values.proofs.Lines.{both_none, unbroken, not_not, or_false}
use Rattle.channel_safety.proofs.Tests.{and-left, and-right, eqb-true}
use Rattle.support_rules.specs.Steps.{persons, step_fault}
use Rattle.support_rules.proofs.Kept.{Repeats, step_means}
use Rattle.support_rules.proofs.PaymentLaws.{same_dest}
use Rattle.fairness_laws.specs.PaymentLaws.{IsShared, HasShared}

-- one asset, allocated to two
abbrev two : ℕ → Dest → Dest → ℕ × ℕ → List AssetOutcome
two asset d e amounts =
    record { asset = asset; shape = Allocation (record { to = d; amount = amounts.0 } ∷ record { to = e; amount = amounts.1 } ∷ []) } ∷ []

record StillTwo (asset : ℕ) (d e : Dest) (all : ℕ) (o : List AssetOutcome) : Type 0 where
  amounts : ℕ × ℕ
  is : o ≡ two asset d e amounts
  sum : amounts.0 + amounts.1 ≡ all

false-and : (b : Bool) → (b && false) ≡ true → ⊥
false-and true e = cc
false-and false e = cc

module _ (people : List (List ℕ)) (asset : ℕ) (d e : Dest) (amounts : ℕ × ℕ) where
  items-two : (ys : List Item) → all_along (is_alike people) (record { to = d; amount = amounts.0 } ∷ record { to = e; amount = amounts.1 } ∷ []) ys ≡ true
      → (ab : ℕ × ℕ) × (ys ≡ record { to = d; amount = ab.0 } ∷ record { to = e; amount = ab.1 } ∷ [])
  items-two [] h = absurd cc
  items-two (x ∷ []) h = absurd (false-and (is_alike people (record { to = d; amount = amounts.0 }) x) h)
  items-two (x ∷ y ∷ []) h =
      let a = and-left (is_alike people (record { to = d; amount = amounts.0 }) x) (is_alike people (record { to = e; amount = amounts.1 }) y && true) h in
      let b = and-left (is_alike people (record { to = e; amount = amounts.1 }) y) true (and-right (is_alike people (record { to = d; amount = amounts.0 }) x) (is_alike people (record { to = e; amount = amounts.1 }) y && true) h) in
      let p : d ≡ x.to = same_dest d x.to (and-left (is_same d x.to) (is_one_of people d || amounts.0 == x.amount) a) in
      let q : e ≡ y.to = same_dest e y.to (and-left (is_same e y.to) (is_one_of people e || amounts.1 == y.amount) b) in (
        (x.amount, y.amount),
        ap (λ (k : Dest). record { to = k; amount = x.amount } ∷ y ∷ []) (sym p) ∙ ap (λ (k : Dest). record { to = d; amount = x.amount } ∷ record { to = k; amount = y.amount } ∷ []) (sym q),
      )
  items-two (x ∷ y ∷ z ∷ zs) h =
      absurd (false-and (is_alike people (record { to = e; amount = amounts.1 }) y) (and-right (is_alike people (record { to = d; amount = amounts.0 }) x) (is_alike people (record { to = e; amount = amounts.1 }) y && false) h))

  shape-two : (a : ℕ) (sh : Shape) → are_shapes_alike people (Allocation (record { to = d; amount = amounts.0 } ∷ record { to = e; amount = amounts.1 } ∷ [])) sh ≡ true
      → (total_of (Allocation (record { to = d; amount = amounts.0 } ∷ record { to = e; amount = amounts.1 } ∷ [])) == total_of sh) ≡ true → asset ≡ a
      → StillTwo asset d e (amounts.0 + amounts.1) (record { asset = a; shape = sh } ∷ [])
  shape-two a (Guarantee u es) h t same = absurd cc
  shape-two a (Allocation ys) h t same =
      let i = items-two ys h in
      let eq : total_of (Allocation (record { to = d; amount = amounts.0 } ∷ record { to = e; amount = amounts.1 } ∷ [])) ≡ total_of (Allocation (record { to = d; amount = i.0.0 } ∷ record { to = e; amount = i.0.1 } ∷ [])) =
      eqb-true _ _ t ∙ ap (λ (zs : List Item). total_of (Allocation zs)) i.1 in
      let sums : 0 + amounts.0 + amounts.1 ≡ 0 + i.0.0 + i.0.1 = eq in
      record {
        amounts = i.0;
        is = ap (λ (zs : List Item). record { asset = a; shape = Allocation zs } ∷ []) i.1
            ∙ ap (λ (n : ℕ). record { asset = n; shape = Allocation (record { to = d; amount = i.0.0 } ∷ record { to = e; amount = i.0.1 } ∷ []) } ∷ []) (sym same);
        sum = omega (arith, sums);
      }

  still-two : (o : List AssetOutcome) → all_along (are_assets_alike people) (two asset d e amounts) o ≡ true → all_along have_one_total (two asset d e amounts) o ≡ true
      → StillTwo asset d e (amounts.0 + amounts.1) o
  still-two [] h t = absurd cc
  still-two (y ∷ []) h t =
      let sh : Shape = Allocation (record { to = d; amount = amounts.0 } ∷ record { to = e; amount = amounts.1 } ∷ []) in
      let a = and-left ((asset == y.asset) && are_shapes_alike people sh y.shape) true h in
      shape-two y.asset y.shape (and-right (asset == y.asset) (are_shapes_alike people sh y.shape) a) (and-left (total_of sh == total_of y.shape) true t)
      (eqb-true asset y.asset (and-left (asset == y.asset) (are_shapes_alike people sh y.shape) a))
  still-two (y ∷ z ∷ zs) h t = absurd (false-and (are_assets_alike people (record { asset = asset; shape = Allocation (record { to = d; amount = amounts.0 } ∷ record { to = e; amount = amounts.1 } ∷ []) }) y) h)

-- a payment without a fault
record IsPayment (people : List (List ℕ)) (s t : StateParts) : Type 0 where
  bare : t.app_bytes ≡ []
  alike : all_along (are_assets_alike people) s.outcome t.outcome ≡ true
  totals : all_along have_one_total s.outcome t.outcome ≡ true

pub no-bytes : (xs : List ℕ) → (length xs == 0) ≡ true → xs ≡ []
no-bytes [] e = refl
no-bytes (x ∷ xs) e = let z : length (x ∷ xs) ≡ 0 = eqb-true (length (x ∷ xs)) 0 e in absurd (omega (arith, z))

is-payment : (people : List (List ℕ)) (m : ℕ) (s t : StateParts) → payment_fault people m s t ≡ None → IsPayment people s t
is-payment people m s t h =
    let some = not (length s.app_bytes == 0) || not (length t.app_bytes == 0) in
    let totals = fault_if (not (all_along have_one_total s.outcome t.outcome)) faults.Outcome in
    let moves = first_along (asset_fault people m) s.outcome t.outcome in
    let alike = fault_if (not (all_along (are_assets_alike people) s.outcome t.outcome)) faults.Outcome in
    let l = both_none (fault_if some faults.Data) (alike ⊳ moves ⊳ totals) h in
    let a = both_none alike (moves ⊳ totals) l.1 in
    let b = both_none moves totals a.1 in
    record {
      bare = no-bytes t.app_bytes (not_not (length t.app_bytes == 0) (or_false (not (length s.app_bytes == 0)) (not (length t.app_bytes == 0)) (unbroken some faults.Data l.0)).1);
      alike = not_not (all_along (are_assets_alike people) s.outcome t.outcome) (unbroken (not (all_along (are_assets_alike people) s.outcome t.outcome)) faults.Outcome a.0);
      totals = not_not (all_along have_one_total s.outcome t.outcome) (unbroken (not (all_along have_one_total s.outcome t.outcome)) faults.Outcome b.1);
    }

module _ (f : FixedParts) (app : f.app ≡ 1) (asset all : ℕ) where
  shared-still : (o : List AssetOutcome) (n : ℕ) → StillTwo asset (person_at (persons f) 0) (person_at (persons f) 1) n o → n ≡ all → IsShared f asset all o
  shared-still o n k e = record { amounts = k.amounts; is = k.is; sum = k.sum ∙ e }

  pub step-shares : (s t : StateParts) → IsState s → IsState t → step_fault f s t ≡ None → HasShared f asset all s → HasShared f asset all t
  unfolding app_fault
  step-shares s t vs vt h has = go (step_means f s t vs vt h)
    where
      was : IsShared f asset all s.outcome
      was = has.0

      go : Repeats s t ⊎ (app_fault f.app (persons f) (mover (length f.keys) t.turn) s t ≡ None) → HasShared f asset all t
      go (inl r) = (subst (IsShared f asset all) r.outcome has.0, sym r.app_bytes ∙ has.1)
      go (inr e) =
          let e1 : payment_fault (persons f) (mover (length f.keys) t.turn) s t ≡ None = subst (λ (a : ℕ). app_fault a (persons f) (mover (length f.keys) t.turn) s t ≡ None) app e in
          let p = is-payment (persons f) (mover (length f.keys) t.turn) s t e1 in
          let k = still-two (persons f) asset (person_at (persons f) 0) (person_at (persons f) 1) was.amounts t.outcome
          (subst (λ (o : List AssetOutcome). all_along (are_assets_alike (persons f)) o t.outcome ≡ true) was.is p.alike)
          (subst (λ (o : List AssetOutcome). all_along have_one_total o t.outcome ≡ true) was.is p.totals) in
          (shared-still t.outcome (was.amounts.0 + was.amounts.1) k was.sum, p.bare)
