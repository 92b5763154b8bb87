-- The payment channels of parts share one amount.
use Rattle.std.proofs.Common.{◌≡◌, ℕ, ◌+◌, List, [], refl, subst}
use Rattle.std.specs.Prelude.{Some}
use Rattle.channel_values.specs.Parts.{FixedParts, StateParts}
use Rattle.channel_values.specs.declared.chain.Signed.{Signed}
use Rattle.channel_values.specs.declared.value.AssetOutcome.{AssetOutcome}
use Rattle.call_history.specs.declared.entry.Entry.{Entry}
use Rattle.funding_plans.specs.declared.plan.Goal.{Goal}
use Rattle.funding_plans.specs.declared.plan.Part.TheVariants as parts
use Rattle.funding_plans.specs.declared.plan.Virtual.{Virtual}
use Rattle.channel_safety.specs.Journals.{In, Line, made_in}
use Rattle.channel_safety.specs.Occurring.{OccursFixed}
use Rattle.channel_node.specs.Minds.{facts_of}
use Rattle.channel_node.specs.Openings.{shared}
use Rattle.channel_node.specs.Places.{Told, lines_of, mind_at}
use Rattle.channel_node.specs.Playing.{Signing}
use Rattle.fairness_laws.proofs.Seat.Past.{occurs}
use Rattle.fairness_laws.specs.PlanParts.{EndIs}
use Rattle.fairness_laws.specs.PlanSeats.{SeatIs}
use Rattle.fairness_laws.specs.PlanSettings.{IsFair}
use Rattle.share_laws.proofs.Fronts.{last-line}
use Rattle.funding_plans.specs.Seats.{Seat}
use Rattle.support_rules.specs.Real.{real}
use Rattle.fairness_laws.specs.PaymentLaws.{At, HasShared, Shares, ChildrenShare, EndsShare}
use Rattle.fairness_laws.proofs.Payment.Ended.{top-there, own-last, own-ended}
use Rattle.fairness_laws.proofs.OpenedParts.{SignsFirst, child-first}
use Rattle.fairness_laws.proofs.OpenedVirtuals.{end-opened}
use Rattle.fairness_laws.proofs.Payment.Made.{all-made, held-has}
use Rattle.fairness_laws.proofs.Payment.Sharing.{step-shares}

module _ (s : Signing) (h : List Entry) (journal : List Told) (fair : IsFair s h journal) (past : List Entry) (front : List Told) (at : At s h journal past front)
    (f : FixedParts) (app : f.app ≡ 1) (asset : ℕ) (amounts : ℕ × ℕ) (c : Seat) (seat : SeatIs s.key past (lines_of s.key front) f (shared f asset amounts) c)
    (first : SignsFirst f (shared f asset amounts) (lines_of s.key journal)) where
  abbrev all : ℕ
  all = amounts.0 + amounts.1

  there : OccursFixed h (lines_of s.key journal) f
  there = occurs s h journal fair.nodes past front at.front_is f seat.own.there

  opens : (t : StateParts) → (t.outcome ≡ shared f asset amounts) × (t.app_bytes ≡ []) → HasShared f asset all t
  opens t e = (record { amounts = amounts; is = e.0; sum = refl }, e.1)

  made : (x : Line) (n : Signed) → In x (lines_of s.key front) → made_in (real.named f) x.deed ≡ Some n → HasShared f asset all n.state
  made =
      all-made s h journal fair f there (HasShared f asset all) (λ a b va vb e p. step-shares f app asset all a b va vb e p) (λ x n i m small. opens n.state (first x n i m small))
      at.front_is.newer front at.front_is.events

  shares : Shares f asset all c
  shares = record { top = tops; own = owns; ended = λ e t u top own. own-ended s h journal fair past (lines_of s.key front) at.place f (shared f asset amounts) c seat e t u top own }
    where
      tops : (t : StateParts) → c.top ≡ Some t → HasShared f asset all t
      tops t e =
          let x = top-there s h journal fair past (lines_of s.key front) at.place f (shared f asset amounts) c seat t e in
          (held-has s h journal fair f there (HasShared f asset all) (λ a b va vb e p. step-shares f app asset all a b va vb e p) (λ x n i m small. opens n.state (first x n i m small))
          past (lines_of s.key front) at.place seat.own.there seat.kept seat.at x.holds made t x.newest_is).1

      owns : (t : StateParts) → c.own ≡ Some t → HasShared f asset all t
      owns t e =
          let x = own-last s h journal fair past (lines_of s.key front) at.place f (shared f asset amounts) c seat t e in
          let l = last-line (real.named f) (lines_of s.key front) x.signed x.is in
          subst (HasShared f asset all) x.same (made l.0 x.signed l.1 l.2)

pub children_share : ChildrenShare
children_share s h journal past front fair at ledger name g i o =
    subst (λ (ab : ℕ × ℕ). Shares o.fixed o.funded.child.asset (ab.0 + ab.1) o.funded.channel) o.amounts
    (shares s h journal fair past front at o.fixed o.app o.funded.child.asset g.amounts o.funded.channel
    (subst (λ (x : List AssetOutcome). SeatIs s.key past (lines_of s.key front) o.fixed x o.funded.channel) o.opening o.seat)
    (subst (λ (x : List AssetOutcome). SignsFirst o.fixed x (lines_of s.key journal)) o.opening (child-first s h journal fair past front at ledger name g i o)))

-- the channel of an end where it is a payment channel
pub end-pays : (s : Signing) (h : List Entry) (journal : List Told) (past : List Entry) (front : List Told) → IsFair s h journal → At s h journal past front → (v : Virtual) (g : Goal)
    → In (parts.End v) (mind_at real s.key past front).parts → (e : EndIs s.key past (lines_of s.key front) (facts_of (mind_at real s.key past front)) v g) → e.fixed.app ≡ 1
    → Shares e.fixed v.asset v.total e.end.channel
end-pays s h journal past front fair at v g i e app =
    subst (λ (n : ℕ). Shares e.fixed v.asset n e.end.channel) e.joint.sum
    (shares s h journal fair past front at e.fixed app v.asset g.amounts e.end.channel
    (subst (λ (x : List AssetOutcome). SeatIs s.key past (lines_of s.key front) e.fixed x e.end.channel) e.opening e.seat)
    (subst (λ (x : List AssetOutcome). SignsFirst e.fixed x (lines_of s.key journal)) e.opening (end-opened s h journal fair past front at v g i e).first))

pub ends_share : EndsShare
ends_share s h journal past front fair at v g i e app = end-pays s h journal past front fair at v g i e app
