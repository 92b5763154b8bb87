-- A channel in which a part wants something is open, while every live channel is: so is a ledger that a part moves.
use Rattle.std.proofs.Common.{◌≡◌, ℕ, Bool, true, false, not, List, inr, refl, ◌∙◌, ap}
use Rattle.std.specs.Prelude.{Some, None}
use Rattle.channel_values.specs.Parts.{StateParts}
use Rattle.call_history.specs.Flows.{is_among}
use Rattle.call_history.specs.declared.entry.Entry.{Entry}
use Rattle.funding_plans.specs.Known.{FactsOf}
use Rattle.funding_plans.specs.Parts.{ledgers_of}
use Rattle.funding_plans.specs.declared.plan.Goal.{Goal}
use Rattle.funding_plans.specs.declared.plan.Part.{Part}
use Rattle.channel_safety.specs.Journals.{In}
use Rattle.channel_node.specs.Minds.{Mind, facts_of}
use Rattle.channel_node.specs.Places.{Told, lines_of, mind_at}
use Rattle.channel_node.specs.Playing.{Signing}
use Rattle.channel_node.specs.Refusing.{not_open}
use Rattle.stage_tables.specs.Stages.{stages}
use Rattle.funding_plans.specs.Outcomes.{names}
use Rattle.fairness_laws.proofs.Guard.Seats.{Stands}
use Rattle.fairness_laws.proofs.Joint.EndsKeep.{ends_keep}
use Rattle.fairness_laws.proofs.Joint.MiddlesKeep.{middles_keep}
use Rattle.fairness_laws.proofs.Ledger.Shut.{IsShut}
use Rattle.fairness_laws.proofs.Ledger.Standing.{known-signed}
use Rattle.fairness_laws.proofs.Ledger.Upright.{shut-there}
use Rattle.fairness_laws.proofs.Ledger.Full.{SignedLast, signed-last, ledger-open}
use Rattle.fairness_laws.proofs.Plan.Names.{among-in}
use Rattle.fairness_laws.proofs.Plan.Parts.{parts_are_known}
use Rattle.fairness_laws.proofs.Plan.Plans.{plans_are_whole}
use Rattle.fairness_laws.specs.LedgerLending.{Lent, lent}
use Rattle.fairness_laws.specs.JointKeeping.{EndsKeep, MiddlesKeep}
use Rattle.fairness_laws.specs.LedgerPlaces.{own_at}
use Rattle.fairness_laws.specs.PaymentLaws.{At}
use Rattle.fairness_laws.specs.PlanParts.{LedgerIs}
use Rattle.fairness_laws.specs.PlanSettings.{IsFair}
use Rattle.funding_plans.specs.Gathered.{goal_in}
use Rattle.funding_plans.specs.Seats.{state_is, is_down}
use Rattle.support_rules.specs.Real.{real}

module _ (s : Signing) (h : List Entry) (journal : List Told) (fair : IsFair s h journal) (past : List Entry) (front : List Told) (at : At s h journal past front)
    (p : Part) (there : In p (mind_at real s.key past front).parts) where
  abbrev m : Mind
  m = mind_at real s.key past front

  abbrev facts : FactsOf
  facts = facts_of m

  ends : EndsKeep
  ends s h journal past front fair at v g i e = ends_keep s h journal past front fair at v g i e

  middles : MiddlesKeep
  middles s h journal past front fair at v g i e = middles_keep s h journal past front fair at v g i e

  -- it closes and isn't pending on any of its ledgers
  abbrev pub AllShut : Type 0
  AllShut = (l : List ℕ) (k : Lent) → lent facts l p ≡ Some k → IsShut k (own_at s.key journal front l)

  -- else its ledgers are open
  pub ledger-stands : not_open stages facts ≡ None → (r : List ℕ) → is_among r (ledgers_of p) ≡ true → (AllShut → ⊥) → Stands facts r
  ledger-stands live r on waits = ledger-open s h journal fair past front at p there r on live stays
    where
      stays : (g : Goal) → goal_in facts r ≡ Some g → g.closing ≡ false
      stays g found = go g.closing refl
        where
          go : (b : Bool) → g.closing ≡ b → b ≡ false
          go false e = refl
          go true e =
              absurd (waits (λ l k lends.
              shut-there s h journal fair parts_are_known plans_are_whole ends middles past front at r l p k g there (among-in r (ledgers_of p) on) lends found e))

  -- and so is down
  pub shut-down : (l : List ℕ) → is_among l (ledgers_of p) ≡ true → (k : Lent) → lent facts l p ≡ Some k → (first second : List ℕ) → LedgerIs s.key past (lines_of s.key front) first second l k.ledger
      → IsShut k (own_at s.key journal front l) → is_down k.child k.ledger ≡ true
  shut-down l on k lends first second is shut = ap (state_is (λ x. not (names k.child x.outcome))) z.own_is ∙ go (names k.child last.outcome) refl
    where
      z : SignedLast s h journal fair past front at p there l on is.fixed k.ledger is.seat.kept
      z = signed-last s h journal fair past front at p there l on first second k.ledger is

      last : StateParts
      last = z.ends.last.state

      go : (b : Bool) → names k.child last.outcome ≡ b → not b ≡ true
      go false e = refl
      go true e =
          absurd (shut.idle last (known-signed s h journal fair parts_are_known plans_are_whole ends middles past front at p there l k last lends z.own_is) (inr (shut.closing, e)))
