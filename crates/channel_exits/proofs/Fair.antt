-- A participant that leaves fairly can exit wherever its channels are final.
use Rattle.std.proofs.Common.{◌≡◌, ◌≢◌, ℕ, ◌≤◌, Bool, true, false, List, [], ◌∷◌, ◌++◌, refl, sym, ◌∙◌, ap, subst, arith}
use Rattle.std.specs.Prelude.{Option, Some, None}
use Rattle.std.specs.List.{AllByRecursion}
use Rattle.std.specs.Option.{option_map}
use Rattle.channel_values.specs.declared.value.AssetOutcome.{AssetOutcome}
use Rattle.channel_values.specs.declared.value.Shape.{Shape}
use Rattle.channel_values.specs.declared.value.Shape.TheVariants.{Allocation, Guarantee}
use Rattle.call_history.specs.Dues.{shape_in}
use Rattle.call_history.specs.Rest.{less_paid, rest_shape, rest_outcome}
use Rattle.call_history.proofs.Payouts.{shape_rest}
use Rattle.funding_plans.specs.declared.plan.Part.{Part}
use Rattle.funding_plans.specs.declared.plan.Part.TheVariants.{Root, OnLedger, End, Middle}
use Rattle.share_laws.specs.Books.{Counting, outcome_in, counts_in}
use Rattle.funding_plans.specs.Shapes.{items_of, items_in}
use Rattle.funding_plans.specs.Parts.{own_guarantor}
use Rattle.share_laws.specs.Places.{plan, counting, share}
use Rattle.share_laws.specs.Signed.{IsNoPayment, HasSigned}
use Rattle.share_laws.proofs.Counted.{Outcome, silent, such}
use Rattle.share_laws.proofs.FairPlaces.{whole-plan, front-plan, fair_sound, all-left, fair_kept}
use Rattle.share_laws.proofs.Lasting.{shares_last}
use Rattle.call_history.specs.History.{paid_to}
use Rattle.share_laws.proofs.Guaranteed.{signed_such}
use Rattle.channel_exits.specs.ExitLaws.{IsBackedBy, IsBacked}
use Rattle.channel_exits.specs.Fair.{Signs, HasAsset, HasNoOther, SignsInAsset, FairExitsPay, FairLeaversArePaid}
use Rattle.channel_exits.proofs.Plans.{exits-apart, apart-from-guarantors, all-on-ledgers}
use Rattle.channel_exits.proofs.Whole.{exits_pay}
use Rattle.share_laws.specs.Plans.{IsPlan}

-- ---- both stay when items are paid

still-some : (p : ℕ → ℕ) (s : Option Shape) → s ≢ None → option_map (rest_shape p) s ≢ None
still-some p None h = λ e. h refl
still-some p (Some shape) h = λ e. cc

asset-rest : (asset : ℕ) (p : ℕ → ℕ → ℕ) (o : List AssetOutcome) → HasAsset asset o → HasAsset asset (rest_outcome p o)
asset-rest asset p o h = λ e. still-some (p asset) (shape_in o asset) h (sym (shape_rest p o asset) ∙ e)

still-none : (p : ℕ → ℕ) (s : Option Shape) → items_of s ≡ [] → items_of (option_map (rest_shape p) s) ≡ []
still-none p None h = refl
still-none p (Some (Allocation xs)) h = ap (less_paid p 0) h
still-none p (Some (Guarantee target list)) h = refl

other-rest : (asset : ℕ) (p : ℕ → ℕ → ℕ) (o : List AssetOutcome) → HasNoOther asset o → HasNoOther asset (rest_outcome p o)
other-rest asset p o h other ne = ap items_of (shape_rest p o other) ∙ still-none (p other) (shape_in o other) (h other ne)

-- so what isn't guaranteed isn't there
backed-by : (xs : List Counting) (asset : ℕ) (g j : List ℕ) → Outcome (HasAsset asset) (counts_in xs g) (outcome_in xs [] g) → Outcome (HasNoOther asset) (counts_in xs j) (outcome_in xs [] j) →
    IsBackedBy xs g j
backed-by xs asset g j hg hj other counts none = go_g (counts_in xs g) (outcome_in xs [] g) hg counts none
  where
    go_j : (u : Bool) (y : List AssetOutcome) → Outcome (HasNoOther asset) u y → other ≢ asset → items_in other y ≡ []
    go_j false y silent ne = refl
    go_j true y (such k) ne = k other ne

    go_g : (t : Bool) (x : List AssetOutcome) → Outcome (HasAsset asset) t x → t ≡ true → shape_in x other ≡ None → items_in other (outcome_in xs [] j) ≡ []
    go_g false x silent c e = cc
    go_g true x (such k) c e = go_j (counts_in xs j) (outcome_in xs [] j) hj (λ same. k (subst (λ (n : ℕ). shape_in x n ≡ None) same e))

all-both : {X : Type 0} (P Q R : X → Type 0) → ((x : X) → P x → Q x → R x) → (xs : List X) → AllByRecursion P xs → AllByRecursion Q xs → AllByRecursion R xs
all-both P Q R f [] h k = tt
all-both P Q R f (x ∷ xs) h k = (f x h.0 k.0, all-both P Q R f xs h.1 k.1)

pub fair_exits : FairExitsPay
fair_exits r key me orders h journal keeps possibly legal honest unforged distinct valid in_time fair past later front place is final stood =
    (exits_pay r me orders h journal legal distinct).pays past later front place is (record {
      sound = fair_sound r key me orders h journal keeps possibly legal honest unforged distinct valid in_time fair.plans past front place;
      apart = exits-apart (plan orders front) whole;
      channels = apart-from-guarantors (plan orders front) whole;
      on_ledgers = all-on-ledgers (plan orders front) whole;
      backed = all-both (SignsInAsset r journal) (HasSigned r me journal) (IsBacked (counting r past front)) backed (plan orders front)
          (all-left (SignsInAsset r journal) (plan orders front) w.0 (subst (λ (ps : List Part). AllByRecursion (SignsInAsset r journal) ps) w.1 fair.assets))
          (all-left (HasSigned r me journal) (plan orders front) w.0 (subst (λ (ps : List Part). AllByRecursion (HasSigned r me journal) ps) w.1 fair.plans.guarantors));
      final = final;
    }) stood
  where
    w : (qs : List Part) × (plan orders journal ≡ plan orders front ++ qs)
    w = whole-plan orders h journal past front place

    whole : IsPlan (plan orders front)
    whole = front-plan orders h journal fair.plans.whole past front place

    one : (asset : ℕ) (g j : List ℕ) → Signs journal g (HasAsset asset) → IsNoPayment r journal g → Signs journal j (HasNoOther asset) → IsNoPayment r journal j → IsBackedBy (counting r past front) g j
    one asset g j sg ng sj nj =
        backed-by (counting r past front) asset g j
        (signed_such r key me h journal keeps possibly legal honest unforged distinct valid in_time (HasAsset asset) (asset-rest asset) g sg ng past front place [])
        (signed_such r key me h journal keeps possibly legal honest unforged distinct valid in_time (HasNoOther asset) (other-rest asset) j sj nj past front place [])

    backed : (p : Part) → SignsInAsset r journal p → HasSigned r me journal p → IsBacked (counting r past front) p
    backed (Root c) s k = tt
    backed (OnLedger l c) s k = tt
    backed (End v) s k = one v.asset (own_guarantor v) v.joint s.1.1 k.0 s.1.0 s.0
    backed (Middle v) s k = (one v.asset v.guarantor_a v.joint s.1.1.0 k.0.0 s.1.0 s.0, one v.asset v.guarantor_b v.joint s.1.1.1 k.1.0 s.1.0 s.0)

pub leavers_paid : FairLeaversArePaid
leavers_paid r key me orders h journal keeps possibly legal honest unforged distinct valid in_time fair ordered past mid later front newer start at quiet is final stood asset =
    let lasts : share r me orders past front asset ≤ share r me orders (mid ++ past) (newer ++ front) asset =
    shares_last r me orders h journal ordered (fair_kept r key me orders h journal keeps possibly legal honest unforged distinct valid in_time fair.plans) mid past newer front start at quiet asset in
    let paid : share r me orders (mid ++ past) (newer ++ front) asset ≤ paid_to h me asset =
    fair_exits r key me orders h journal keeps possibly legal honest unforged distinct valid in_time fair (mid ++ past) later (newer ++ front) at is final stood asset in
    trans (share r me orders past front asset) (share r me orders (mid ++ past) (newer ++ front) asset) (paid_to h me asset) lasts paid
  where
    trans : (a b c : ℕ) → a ≤ b → b ≤ c → a ≤ c
    trans a b c p q = omega arith
