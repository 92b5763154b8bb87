-- The joint channel of a virtual one, from one place of a journal to a later one.
use Rattle.std.proofs.Common.{◌≡◌, ℕ, Bool, true, List, ◌++◌, sym, ◌∙◌, ap, subst}
use Rattle.std.specs.Prelude.{Option, Some}
use Rattle.channel_values.specs.declared.value.AssetOutcome.{AssetOutcome}
use Rattle.call_history.specs.declared.entry.Entry.{Entry}
use Rattle.funding_plans.specs.declared.plan.Goal.{Goal}
use Rattle.funding_plans.specs.declared.plan.Virtual.{Virtual}
use Rattle.channel_values.specs.Parts.{StateParts}
use Rattle.channel_node.specs.Minds.{Mind, facts_of}
use Rattle.channel_node.specs.Places.{Told, lines_of, mind_at}
use Rattle.channel_node.specs.Playing.{Signing}
use Rattle.fairness_laws.specs.PaymentLaws.{At}
use Rattle.fairness_laws.specs.PlanParts.{JointIs}
use Rattle.fairness_laws.specs.PlanSettings.{IsFair}
use Rattle.fairness_laws.proofs.Joint.Core.{Core, core-grows}
use Rattle.fairness_laws.proofs.Joint.Places.{holds-grows, set-up-grows}
use Rattle.fairness_laws.proofs.Joint.Terms.{terms-one}
use Rattle.fairness_laws.proofs.Opening.Seated.{seated}
use Rattle.funding_plans.specs.Targets.{apart}
use Rattle.funding_plans.specs.declared.terms.Terms.{Terms}
use Rattle.funding_plans.specs.Gathered.{seat_with}
use Rattle.funding_plans.specs.Seats.{Seat, holds, is_set_up}
use Rattle.support_rules.specs.Real.{real}

module _ (s : Signing) (h : List Entry) (journal : List Told) (fair : IsFair s h journal) (later past : List Entry) (newer front : List Told)
    (pa : At s h journal past front) (qa : At s h journal (later ++ past) (newer ++ front)) (v : Virtual) (g k : Goal) (t u : Terms) (c d : Seat)
    (a : JointIs s.key past (lines_of s.key front) v g t c) (b : JointIs s.key (later ++ past) (lines_of s.key (newer ++ front)) v k u d) where
  abbrev m : Mind
  m = mind_at real s.key past front

  abbrev new : Mind
  new = mind_at real s.key (later ++ past) (newer ++ front)

  pub terms-same : t ≡ u
  terms-same = terms-one s h journal fair past front pa.front_is (later ++ past) (newer ++ front) qa.front_is v g k t u c d a b

  pub five-stays : holds 5 c ≡ true → holds 5 d ≡ true
  five-stays = holds-grows s h journal fair later past newer front pa qa a.fixed b.fixed (apart t g.amounts) (apart u k.amounts) c d a.seat b.seat (a.named ∙ sym b.named) 5

  pub joint-set : is_set_up c ≡ true → is_set_up d ≡ true
  joint-set = set-up-grows s h journal fair later past newer front pa qa a.fixed b.fixed (apart t g.amounts) (apart u k.amounts) c d a.seat b.seat (a.named ∙ sym b.named)

  -- by the amounts that were commanded
  module _ (ab cd : ℕ × ℕ) (was : seat_with (facts_of m) v.joint (apart t ab) ≡ Some c) (is : seat_with (facts_of new) v.joint (apart u cd) ≡ Some d) (amounts : cd ≡ ab) where
    opens-same : c.opening ≡ d.opening
    opens-same =
        (seated m v.joint (apart t ab) c was).opening_is
        ∙ (ap (λ (x : Terms). apart x ab) terms-same ∙ (ap (apart u) (sym amounts) ∙ sym (seated new v.joint (apart u cd) d is).opening_is))

    -- what is known of it
    pub core-stays : (closing now set set-now : Bool) (Back Now : List AssetOutcome → Type 0) (last : Option StateParts) → closing ≡ now → (set ≡ true → set-now ≡ true)
        → ((o : List AssetOutcome) → Back o → Now o) → Core t c.opening closing set (holds 5 c) Back last → Core u d.opening now set-now (holds 5 d) Now last
    core-stays closing now set set-now Back Now last same sets backs core =
        subst (λ (x : Bool). Core u d.opening x set-now (holds 5 d) Now last) same
        (subst (λ (x : List AssetOutcome). Core u x closing set-now (holds 5 d) Now last) opens-same
        (subst (λ (x : Terms). Core x c.opening closing set-now (holds 5 d) Now last) terms-same
        (core-grows t c.opening closing set (holds 5 c) set-now (holds 5 d) Back Now last sets five-stays backs core)))
