-- A plan that is kept fairly is sound at each place.
use Rattle.std.proofs.Common.{◌≡◌, ℕ, List, [], ◌∷◌, ◌++◌, refl, sym, ◌∙◌, ap, subst}
use Rattle.std.specs.List.{AllByRecursion}
use Rattle.std.proofs.lemmas.List.{append-nil, append_assoc}
use Rattle.channel_values.specs.declared.value.Dest.{Dest}
use Rattle.channel_values.specs.Rules.{Rules, KeepsFinal}
use Rattle.call_history.specs.Flows.{is_among}
use Rattle.call_history.specs.History.{Legal}
use Rattle.call_history.specs.declared.entry.Entry.{Entry}
use Rattle.channel_safety.specs.Journals.{In, Line}
use Rattle.channel_safety.specs.Honest.{Honest}
use Rattle.channel_safety.specs.Premises.{Unforged, InTime}
use Rattle.channel_safety.specs.Occurring.{NoCollision, AreValid}
use Rattle.funding_plans.specs.declared.plan.Part.{Part}
use Rattle.funding_plans.specs.declared.plan.Part.TheVariants.{Root, OnLedger, End, Middle}
use Rattle.share_laws.specs.Places.{Order, opened_part, plan, counting, IsPlace}
use Rattle.share_laws.specs.Bases.{bases_of, all_bases}
use Rattle.share_laws.specs.Sound.{Guarantees, IsGuaranteed, IsSound}
use Rattle.share_laws.specs.Finality.{StepsKeepPossible, RestsOnNoPayments}
use Rattle.share_laws.specs.Signed.{SignsGuarantees, IsNoPayment, HasSigned, PlansFairly, FairSharesAreKept}
use Rattle.share_laws.proofs.Finality.{opened-there, honest_kept}
use Rattle.share_laws.proofs.Fronts.{channels-there}
use Rattle.share_laws.proofs.Guaranteed.{signed_stand}
use Rattle.share_laws.proofs.Plans.{plan-payers, plan-apart, plan-front}
use Rattle.share_laws.specs.Plans.{IsPlan}
use Rattle.channel_safety.proofs.Lists.{In-append_right}
use Rattle.share_laws.proofs.Apart.{among-first}

-- the parts of a journal's front come first
pub plan-later : (orders : ℕ → Order) (newer front : List Line) → (qs : List Part) × (plan orders (newer ++ front) ≡ plan orders front ++ qs)
plan-later orders [] front = ([], sym (append-nil (plan orders front)))
plan-later orders (x ∷ newer) front =
    let p = plan-later orders newer front in (
      p.0 ++ opened_part orders x (newer ++ front),
      ap (λ (ps : List Part). ps ++ opened_part orders x (newer ++ front)) p.1 ∙ append_assoc (plan orders front) p.0 (opened_part orders x (newer ++ front)),
    )

bases-append : (ps qs : List Part) → all_bases (ps ++ qs) ≡ all_bases ps ++ all_bases qs
bases-append [] qs = refl
bases-append (p ∷ ps) qs = ap (λ (ns : List (List ℕ)). bases_of p ++ ns) (bases-append ps qs) ∙ sym (append_assoc (bases_of p) (all_bases ps) (all_bases qs))

pub all-left : {X : Type 0} (P : X → Type 0) (xs ys : List X) → AllByRecursion P (xs ++ ys) → AllByRecursion P xs
all-left P [] ys h = tt
all-left P (x ∷ xs) ys h = (h.0, all-left P xs ys h.1)

pub all-map : {X : Type 0} (P Q : X → Type 0) → ((x : X) → P x → Q x) → (xs : List X) → AllByRecursion P xs → AllByRecursion Q xs
all-map P Q f [] h = tt
all-map P Q f (x ∷ xs) h = (f x h.0, all-map P Q f xs h.1)

pub whole-plan : (orders : ℕ → Order) (h : List Entry) (journal : List Line) (past : List Entry) (front : List Line) → IsPlace h journal past front → (qs : List Part) × (plan orders journal ≡ plan orders front ++ qs)
whole-plan orders h journal past front at = let p = plan-later orders at.newer front in (p.0, ap (plan orders) at.lines ∙ p.1)

-- so that front is whole where the plan is
pub front-plan : (orders : ℕ → Order) (h : List Entry) (journal : List Line) → IsPlan (plan orders journal) → (past : List Entry) (front : List Line) → IsPlace h journal past front → IsPlan (plan orders front)
front-plan orders h journal whole past front at = let w = whole-plan orders h journal past front at in plan-front (plan orders front) w.0 (subst IsPlan w.1 whole)

-- a fair plan is sound at each place
pub fair_sound : (r : Rules) (key me : List ℕ) (orders : ℕ → Order) (h : List Entry) (journal : List Line) → KeepsFinal r → StepsKeepPossible r key me → Legal r h
    → Honest r key h journal → Unforged r key h journal → NoCollision r h journal → AreValid h journal → InTime r h journal → PlansFairly r me orders h journal
    → (past : List Entry) (front : List Line) → IsPlace h journal past front → IsSound me (plan orders front) (counting r past front)
fair_sound r key me orders h journal keeps possibly legal honest unforged distinct valid in_time fair = sound
  where
    stand : (g joint : List ℕ) (list : List Dest) → SignsGuarantees journal g joint list → IsNoPayment r journal g → (past : List Entry) (front : List Line) → IsPlace h journal past front →
        Guarantees (counting r past front) g joint list
    stand g joint list s n past front at = signed_stand r key me h journal keeps possibly legal honest unforged distinct valid in_time g joint list s n past front at

    guaranteed : (past : List Entry) (front : List Line) → IsPlace h journal past front → (p : Part) → HasSigned r me journal p → IsGuaranteed me (counting r past front) p
    guaranteed past front at (Root c) s = tt
    guaranteed past front at (OnLedger l c) s = tt
    guaranteed past front at (End v) s = (s.1.0, stand _ v.joint _ s.1.1 s.0 past front at)
    guaranteed past front at (Middle v) s = (
      (s.0.1.0, stand v.guarantor_a v.joint _ s.0.1.1 s.0.0 past front at),
      (s.1.1.0, stand v.guarantor_b v.joint _ s.1.1.1 s.1.0 past front at),
    )

    sound : (past : List Entry) (front : List Line) → IsPlace h journal past front → IsSound me (plan orders front) (counting r past front)
    sound past front at =
        let w = whole-plan orders h journal past front at in
        let whole = front-plan orders h journal fair.whole past front at in
        record {
          payers = plan-payers (plan orders front) whole;
          apart = plan-apart (plan orders front) whole;
          guarantors = all-map (HasSigned r me journal) (IsGuaranteed me (counting r past front)) (guaranteed past front at) (plan orders front)
              (all-left (HasSigned r me journal) (plan orders front) w.0 (subst (λ (ps : List Part). AllByRecursion (HasSigned r me journal) ps) w.1 fair.guarantors));
        }

pub fair_kept : FairSharesAreKept
fair_kept r key me orders h journal keeps possibly legal honest unforged distinct valid in_time fair =
    honest_kept r key me orders h journal keeps possibly legal honest unforged distinct valid in_time (record {
      channels_differ = fair.channels_differ;
      sound = fair_sound r key me orders h journal keeps possibly legal honest unforged distinct valid in_time fair;
      rests = rests;
      signs = fair.signs;
    })
  where
    rests : (past : List Entry) (front : List Line) → IsPlace h journal past front → RestsOnNoPayments r orders front
    rests past front at f i base =
        let w = whole-plan orders h journal past front at in
        let x = opened-there front f i in
        fair.rests f (channels-there journal x.0 f (subst (λ (ls : List Line). In x.0 ls) (sym at.lines) (In-append_right x.0 at.newer front x.1)) x.2)
        (ap (is_among (r.named f)) (ap all_bases w.1 ∙ bases-append (plan orders front) w.0) ∙ among-first (r.named f) (all_bases (plan orders front)) (all_bases w.0) base)
