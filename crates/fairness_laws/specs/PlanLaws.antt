-- What the parts of a node's plan are at each place of its journal.
use Rattle.std.specs.Prelude.{◌≡◌, ℕ, List, Some}
use Rattle.std.specs.Str.{bytes_eq}
use Rattle.channel_values.specs.Outcomes.{AreApart}
use Rattle.call_history.specs.declared.entry.Entry.{Entry}
use Rattle.funding_plans.specs.Parts.{own_channel}
use Rattle.funding_plans.specs.declared.plan.Goal.{Goal}
use Rattle.funding_plans.specs.declared.plan.Part.{Part}
use Rattle.channel_safety.specs.Journals.{In}
use Rattle.channel_node.specs.Minds.{facts_of}
use Rattle.channel_node.specs.Places.{Told, lines_of, mind_at}
use Rattle.channel_node.specs.Playing.{Signing}
use Rattle.node_guarantees.specs.NodeShareLaws.{IsFront}
use Rattle.node_guarantees.specs.Orders.{orders_of}
use Rattle.share_laws.specs.Finality.{RestsOnNoPayments}
use Rattle.share_laws.specs.Turns.{names}
use Rattle.share_laws.specs.Places.{Order, channels, plan}
use Rattle.share_laws.specs.Plans.{IsPlan}
use Rattle.funding_plans.specs.Gathered.{goal_in}
use Rattle.support_rules.specs.Real.{real}
use Rattle.fairness_laws.specs.PlanParts.{PartIs}
use Rattle.fairness_laws.specs.PlanSettings.{IsNodes}

-- the goal of a part, and what the part is
pub record PartAt (s : Signing) (past : List Entry) (front : List Told) (p : Part) : Type 0 where
  pub goal : Goal
  pub found : goal_in (facts_of (mind_at real s.key past front)) (own_channel p) ≡ Some goal
  pub is : PartIs s.key past (lines_of s.key front) (facts_of (mind_at real s.key past front)) p goal

-- of each part of the plan, at each place
abbrev pub PartsAreKnown : Type 0
PartsAreKnown =
    (s : Signing) (h : List Entry) (journal : List Told) (past : List Entry) (front : List Told) → IsNodes s h journal
    → IsFront h journal past front → (p : Part) → In p (mind_at real s.key past front).parts → PartAt s past front p

-- What a plan of a node's orders is. Each channel stands once, each ledger is a root, or the channel of an end, that
-- was opened before, and no part rests on a payment channel.
pub record PlanIs (s : Signing) (orders : ℕ → Order) (front : List Told) : Type 0 where
  pub whole : IsPlan (plan orders (lines_of s.key front))
  pub channels_differ : AreApart bytes_eq (names real (channels (lines_of s.key front)))
  pub rests : RestsOnNoPayments real orders (lines_of s.key front)

abbrev pub PlansAreWhole : Type 0
PlansAreWhole =
    (s : Signing) (h : List Entry) (journal : List Told) (past : List Entry) (front : List Told) → IsNodes s h journal
    → IsFront h journal past front → PlanIs s (orders_of real s.key journal) front
