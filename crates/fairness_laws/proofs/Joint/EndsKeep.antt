-- What the joint channel at an end keeps.
use Rattle.std.proofs.Common.{◌≡◌, ℕ, Bool, true, false, not, ◌&&◌, ◌⊎◌, inl, inr, List, [], ◌∷◌, length, refl, sym, ◌∙◌, ap, subst}
use Rattle.std.specs.Prelude.{Option, Some, None}
use Rattle.std.specs.Option.{option_map}
use Rattle.channel_values.specs.Parts.{StateParts}
use Rattle.channel_values.specs.Spelling.{outcome}
use Rattle.channel_values.specs.declared.value.AssetOutcome.{AssetOutcome}
use Rattle.channel_values.specs.declared.value.Dest.TheVariants.{Channel}
use Rattle.support_rules.specs.Ballots.{ballot_of}
use Rattle.support_rules.specs.Rules.{is_same_outcome}
use Rattle.support_rules.specs.Toward.{is_settled, has_no_votes}
use Rattle.channel_safety.proofs.Tests.{clash, and-left, and-right}
use Rattle.call_history.proofs.Names.{bytes_eq_self}
use Rattle.call_history.specs.declared.entry.Entry.{Entry}
use Rattle.channel_values.specs.Amounts.{has}
use Rattle.channel_values.specs.Rules.{people}
use Rattle.funding_plans.specs.Shapes.{items_in}
use Rattle.funding_plans.specs.declared.plan.Goal.{Goal}
use Rattle.funding_plans.specs.declared.plan.Part.TheVariants as kinds
use Rattle.funding_plans.specs.declared.plan.Virtual.{Virtual}
use Rattle.channel_safety.specs.Journals.{In, Line}
use Rattle.channel_node.specs.Minds.{facts_of}
use Rattle.channel_node.specs.Places.{Told, lines_of, mind_at}
use Rattle.channel_node.specs.Playing.{Signing, pending}
use Rattle.fairness_laws.proofs.Seat.Past.{two-people}
use Rattle.fairness_laws.specs.JointKeeping.{IsOver, EndKeeps, EndsKeep}
use Rattle.fairness_laws.specs.PaymentLaws.{At}
use Rattle.fairness_laws.specs.PlanParts.{EndIs}
use Rattle.fairness_laws.specs.PlanSettings.{IsFair}
use Rattle.fairness_laws.proofs.Joint.Core.{Late, Core}
use Rattle.fairness_laws.proofs.Joint.Ends.{EndCore}
use Rattle.fairness_laws.proofs.Joint.EndKept.{ends-core}
use Rattle.fairness_laws.proofs.Seat.Held.{last-of}
use Rattle.fairness_laws.proofs.Joint.Late.{data-votes, late-of}
use Rattle.fairness_laws.proofs.Joint.Outcomes.{spelled-apart, together-has, apart-has-not}
use Rattle.fairness_laws.proofs.Outcomes.{alone, bare-data}
use Rattle.fairness_laws.proofs.Joint.Seats.{seat-late, own-is, late-settled, settled-there, sets, opens-with, joins, joined, parts}
use Rattle.funding_plans.specs.Targets.{apart, together}
use Rattle.share_laws.specs.Places.{outcomes_of}
use Rattle.funding_plans.specs.Seats.{state_is, has_no_data, holds, has_signed_past, settled_on}
use Rattle.support_rules.specs.Real.{real}
use Rattle.virtual_channel.specs.Ends as ends
use Rattle.virtual_channel.specs.Ends.{End}
use Rattle.virtual_channel.specs.Middles.{is_without}

module _ (s : Signing) (h : List Entry) (journal : List Told) (fair : IsFair s h journal) (past : List Entry) (front : List Told) (at : At s h journal past front)
    (v : Virtual) (g : Goal) (i : In (kinds.End v) (mind_at real s.key past front).parts) (e : EndIs s.key past (lines_of s.key front) (facts_of (mind_at real s.key past front)) v g) where
  abbrev L : List Line
  L = lines_of s.key front

  abbrev p : End
  p = e.end

  known : EndCore v p L (pending front)
  known = ends-core s h journal fair past front at v g i e

  core : Core p.terms p.joint.opening p.closing (ends.are_set_up p) (holds 5 p.joint) (IsOver p) (last-of v.joint L)
  core = known.core

  two : people e.fixed ≡ 2
  two = two-people e.fixed p.terms.first p.terms.second e.people

  channel-late : has_signed_past p.channel ≡ true → Late 2 (last-of v.channel L)
  channel-late = late-of s h journal fair past front at e.fixed g.opening p.channel e.seat 2 two v.channel e.named

  own : (last : StateParts) → p.joint.own ≡ Some last → last-of v.joint L ≡ Some last
  own = own-is s h journal fair past front at v g p.terms p.joint e.joint

  late-joint : Late 3 (last-of v.joint L) → has_signed_past p.joint ≡ true
  late-joint = seat-late s h journal fair past front at v g p.terms p.joint e.joint

  past-joint : (p.closing ≡ true) ⊎ (has_signed_past p.channel ≡ true) → has_signed_past p.joint ≡ true
  past-joint (inl closed) = late-joint (core.closed closed)
  past-joint (inr late) = go p.closing refl
    where
      go : (b : Bool) → p.closing ≡ b → has_signed_past p.joint ≡ true
      go true closed = late-joint (core.closed closed)
      go false stays =
          late-joint (late-settled s h journal fair past front at v g p.terms p.joint e.joint p.closing (ends.are_set_up p) (holds 5 p.joint) (IsOver p) core (known.opened stays (channel-late late)))

  -- ---- from Close on

  -- spelled as amounts for the ends it is over
  over-spelled : p.closing ≡ true → (last : StateParts) → p.joint.own ≡ Some last → (cd : ℕ × ℕ) → is_same_outcome last.outcome (apart p.terms cd) ≡ true → IsOver p last.outcome
  over-spelled closed last is cd spelled = by (core.parts closed last last.outcome (own last is) (inl refl))
    where
      by : (last.outcome ≡ together p.terms) ⊎ IsOver p last.outcome → IsOver p last.outcome
      by (inl same) = absurd (spelled-apart p.terms cd (subst (λ (o : List AssetOutcome). is_same_outcome o (apart p.terms cd) ≡ true) same spelled))
      by (inr over) = over

  parted : p.closing ≡ true → settled_on (ends.target_back p) p.joint ≡ true → (last : StateParts) → p.joint.own ≡ Some last
      → (over : IsOver p last.outcome) × (outcomes_of last ≡ apart p.terms over.amounts ∷ [])
  parted closed settled last is = go (ends.ends_now p) settled
    where
      go : (o : Option (ℕ × ℕ)) → settled_on (option_map (apart p.terms) o) p.joint ≡ true → (over : IsOver p last.outcome) × (outcomes_of last ≡ apart p.terms over.amounts ∷ [])
      go None b = absurd (clash false b refl)
      go (Some cd) b =
          let t = subst (λ (o : Option StateParts). is_settled (length p.joint.people) (apart p.terms cd) o ≡ true) is b in
          let over = over-spelled closed last is cd (and-left (is_same_outcome last.outcome (apart p.terms cd)) (has_no_votes (ballot_of (length p.joint.people) last.app_bytes)) t) in (
            over,
            alone last (bare-data (length p.joint.people) last.app_bytes (and-right (is_same_outcome last.outcome (apart p.terms cd)) (has_no_votes (ballot_of (length p.joint.people) last.app_bytes)) t))
                ∙ ap (λ (o : List AssetOutcome). o ∷ []) over.is,
          )

  without : p.closing ≡ true → state_is (is_without p.terms) p.joint.own ≡ settled_on (ends.target_back p) p.joint
  without closed = go p.joint.own refl
    where
      none-settled : (o : Option (ℕ × ℕ)) → p.joint.own ≡ None → false ≡ settled_on (option_map (apart p.terms) o) p.joint
      none-settled None is = refl
      none-settled (Some cd) is = sym (ap (is_settled (length p.joint.people) (apart p.terms cd)) is)

      -- all to the payment channel
      not-settled : (last : StateParts) → p.joint.own ≡ Some last → last.outcome ≡ together p.terms → (o : Option (ℕ × ℕ)) → false ≡ settled_on (option_map (apart p.terms) o) p.joint
      not-settled last is same None = refl
      not-settled last is same (Some cd) = sym (ap (is_settled (length p.joint.people) (apart p.terms cd)) is ∙ ap (λ (b : Bool). b && has_no_votes (ballot_of (length p.joint.people) last.app_bytes)) (differ (is_same_outcome last.outcome (apart p.terms cd)) refl))
        where
          differ : (b : Bool) → is_same_outcome last.outcome (apart p.terms cd) ≡ b → b ≡ false
          differ true q = absurd (spelled-apart p.terms cd (subst (λ (o : List AssetOutcome). is_same_outcome o (apart p.terms cd) ≡ true) same q))
          differ false q = refl

      and-false : (b : Bool) → (b && false) ≡ false
      and-false true = refl
      and-false false = refl

      and-true : (b : Bool) → (b && true) ≡ b
      and-true true = refl
      and-true false = refl

      by : (last : StateParts) → p.joint.own ≡ Some last → (last.outcome ≡ together p.terms) ⊎ IsOver p last.outcome → is_without p.terms last ≡ settled_on (ends.target_back p) p.joint
      by last is (inl same) =
          ap (λ (o : List AssetOutcome). has_no_data last && not (has (items_in p.terms.asset o) (Channel p.terms.channel))) same
          ∙ (ap (λ (b : Bool). has_no_data last && not b) (together-has p.terms) ∙ (and-false (has_no_data last) ∙ not-settled last is same (ends.ends_now p)))
      by last is (inr over) =
          ap (λ (o : List AssetOutcome). has_no_data last && not (has (items_in p.terms.asset o) (Channel p.terms.channel))) over.is
          ∙ (ap (λ (b : Bool). has_no_data last && not b) (apart-has-not p.terms over.amounts) ∙ (and-true (has_no_data last) ∙ (data-votes (length p.joint.people) last
          ∙ sym (ap (λ (o : Option (ℕ × ℕ)). settled_on (option_map (apart p.terms) o) p.joint) over.now
          ∙ (ap (is_settled (length p.joint.people) (apart p.terms over.amounts)) is
          ∙ ap (λ (b : Bool). b && has_no_votes (ballot_of (length p.joint.people) last.app_bytes))
          (ap (λ (o : List AssetOutcome). is_same_outcome o (apart p.terms over.amounts)) over.is ∙ bytes_eq_self (outcome (apart p.terms over.amounts))))))))

      go : (o : Option StateParts) → p.joint.own ≡ o → state_is (is_without p.terms) p.joint.own ≡ settled_on (ends.target_back p) p.joint
      go None is = ap (state_is (is_without p.terms)) is ∙ none-settled (ends.ends_now p) is
      go (Some last) is = ap (state_is (is_without p.terms)) is ∙ by last is (core.parts closed last last.outcome (own last is) (inl refl))

  pub end-keeps : EndKeeps g p
  end-keeps = record {
    set_up = sets s h journal fair past front at v g p.terms p.joint e.joint p.closing (ends.are_set_up p) (holds 5 p.joint) (IsOver p) core;
    past = past-joint;
    opens = opens-with s h journal fair past front at v g p.terms p.joint e.joint p.closing (ends.are_set_up p) (holds 5 p.joint) (IsOver p) core;
    joins = joins s h journal fair past front at v g p.terms p.joint e.joint p.closing (ends.are_set_up p) (holds 5 p.joint) (IsOver p) core;
    joined = joined s h journal fair past front at v g p.terms p.joint e.joint p.closing (ends.are_set_up p) (holds 5 p.joint) (IsOver p) core;
    opened = λ stays late.
        settled-there s h journal fair past front at v g p.terms p.joint e.joint p.closing (ends.are_set_up p) (holds 5 p.joint) (IsOver p) core (known.opened stays (channel-late late));
    parts = parts s h journal fair past front at v g p.terms p.joint e.joint p.closing (ends.are_set_up p) (holds 5 p.joint) (IsOver p) core;
    parted = parted;
    without = without;
  }

pub ends_keep : EndsKeep
ends_keep s h journal past front fair at v g i e = end-keeps s h journal fair past front at v g i e
