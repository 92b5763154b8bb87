-- The payment channels of a node's parts share one amount between their two people, at each place of its journal.
use Rattle.std.specs.Prelude.{◌≡◌, ℕ, ◌+◌, true, false, List, [], ◌∷◌, ◌++◌, length, Some}
use Rattle.channel_values.specs.Parts.{FixedParts, StateParts}
use Rattle.channel_values.specs.declared.value.AssetOutcome.{AssetOutcome}
use Rattle.call_history.specs.declared.entry.Entry.{Entry}
use Rattle.funding_plans.specs.declared.plan.Goal.{Goal}
use Rattle.funding_plans.specs.declared.plan.Part.TheVariants as parts
use Rattle.funding_plans.specs.declared.plan.Virtual.{Virtual}
use Rattle.channel_safety.specs.Journals.{In, is_watched}
use Rattle.channel_node.specs.Minds.{facts_of}
use Rattle.channel_node.specs.Openings.{shared}
use Rattle.channel_node.specs.Places.{Told, lines_of, mind_at}
use Rattle.channel_node.specs.Playing.{Signing}
use Rattle.node_guarantees.specs.NodeShareLaws.{IsFront}
use Rattle.fairness_laws.specs.PlanParts.{OnLedgerIs, EndIs}
use Rattle.fairness_laws.specs.PlanSeats.{SeatIs}
use Rattle.fairness_laws.specs.PlanSettings.{IsFair}
use Rattle.share_laws.specs.Places.{IsPlace, outcomes_of}
use Rattle.funding_plans.specs.Gathered.{goal_in}
use Rattle.funding_plans.specs.Seats.{Seat}
use Rattle.support_rules.specs.Real.{real}

-- a place of a history and of a node's journal
pub record At (s : Signing) (h : List Entry) (journal : List Told) (past : List Entry) (front : List Told) : Type 0 where
  pub front_is : IsFront h journal past front
  pub place : IsPlace h (lines_of s.key journal) past (lines_of s.key front)

-- a place at which the node acts next, by this event
pub record ActsNext (s : Signing) (h : List Entry) (journal : List Told) (past : List Entry) (x : Told) (front : List Told) : Type 0 where
  pub place : IsFront h journal past front
  pub then : IsFront h journal past (x ∷ front)
  pub acts : is_watched x.deed ≡ false
  pub len : length past ≡ x.seen

-- amounts for both people that add up to this, of one asset and nothing else
pub record IsShared (f : FixedParts) (asset all : ℕ) (o : List AssetOutcome) : Type 0 where
  pub amounts : ℕ × ℕ
  pub is : o ≡ shared f asset amounts
  pub sum : amounts.0 + amounts.1 ≡ all

-- a state without data whose outcome is
abbrev pub HasShared : FixedParts → ℕ → ℕ → StateParts → Type 0
HasShared f asset all t = IsShared f asset all t.outcome × (t.app_bytes ≡ [])

-- So are the latest state that is held and the one that the participant signed last. Where all states that are held
-- are final, so is that one, with the same outcome.
pub record Shares (f : FixedParts) (asset all : ℕ) (c : Seat) : Type 0 where
  pub top : (t : StateParts) → c.top ≡ Some t → HasShared f asset all t
  pub own : (t : StateParts) → c.own ≡ Some t → HasShared f asset all t
  pub ended : c.all_final ≡ true → (t own : StateParts) → c.top ≡ Some t → c.own ≡ Some own
      → (own.is_final ≡ true) × (own.outcome ≡ t.outcome)

abbrev pub ChildrenShare : Type 0
ChildrenShare =
    (s : Signing) (h : List Entry) (journal : List Told) (past : List Entry) (front : List Told) → IsFair s h journal
    → At s h journal past front → (ledger name : List ℕ) (g : Goal)
    → In (parts.OnLedger ledger name) (mind_at real s.key past front).parts
    → (o : OnLedgerIs s.key past (lines_of s.key front) (facts_of (mind_at real s.key past front)) ledger name g)
    → Shares o.fixed o.funded.child.asset (o.funded.child.a + o.funded.child.b) o.funded.channel

abbrev pub EndsShare : Type 0
EndsShare =
    (s : Signing) (h : List Entry) (journal : List Told) (past : List Entry) (front : List Told) → IsFair s h journal
    → At s h journal past front → (v : Virtual) (g : Goal) → In (parts.End v) (mind_at real s.key past front).parts
    → (e : EndIs s.key past (lines_of s.key front) (facts_of (mind_at real s.key past front)) v g) → e.fixed.app ≡ 1
    → Shares e.fixed v.asset v.total e.end.channel

-- The latest state does, and the state that the participant signed last has its outcome, alone.
pub record SharesOver (f : FixedParts) (asset all : ℕ) (c : Seat) : Type 0 where
  pub top : (t : StateParts) → c.top ≡ Some t → IsShared f asset all t.outcome
  pub own : (t own : StateParts) → c.top ≡ Some t → c.own ≡ Some own → (own.outcome ≡ t.outcome) × (outcomes_of own ≡ own.outcome ∷ [])

-- So it is in the channel of an end, whether that is a payment channel or a ledger, once it closes and all that is
-- held there is final.
abbrev pub EndsShareOver : Type 0
EndsShareOver =
    (s : Signing) (h : List Entry) (journal : List Told) (past : List Entry) (front : List Told) → IsFair s h journal
    → At s h journal past front → (v : Virtual) (g : Goal) → In (parts.End v) (mind_at real s.key past front).parts
    → goal_in (facts_of (mind_at real s.key past front)) v.channel ≡ Some g
    → (e : EndIs s.key past (lines_of s.key front) (facts_of (mind_at real s.key past front)) v g) → e.end.closing ≡ true
    → e.end.channel.all_final ≡ true → SharesOver e.fixed v.asset v.total e.end.channel

-- Where all states that are held of a channel are final, the latest one and the last own one stay final, with the
-- same outcomes. All of them do with two people. With more a newer chain can begin with another state that its mover
-- signed too.
pub record StaysEnded (c d : Seat) : Type 0 where
  pub ended : length d.people ≡ 2 → d.all_final ≡ true
  pub top : (t u : StateParts) → c.top ≡ Some t → d.top ≡ Some u → (u.is_final ≡ true) × (u.outcome ≡ t.outcome)
  pub own : (t u : StateParts) → c.own ≡ Some t → d.own ≡ Some u → (u.is_final ≡ true) × (u.outcome ≡ t.outcome)

abbrev pub EndedChannelsStay : Type 0
EndedChannelsStay =
    (s : Signing) (h : List Entry) (journal : List Told) (later past : List Entry) (newer front : List Told) → IsFair s h journal
    → At s h journal past front → At s h journal (later ++ past) (newer ++ front)
    → (f : FixedParts) (o : List AssetOutcome) (c d : Seat) → SeatIs s.key past (lines_of s.key front) f o c
    → SeatIs s.key (later ++ past) (lines_of s.key (newer ++ front)) f o d → c.all_final ≡ true → StaysEnded c d
